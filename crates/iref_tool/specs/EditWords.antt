-- The edits that words name, each a name, or a name, `=` and a value, and what they make of a reference.
use Rattle.std.specs.Prelude.{List, [], ◌∷◌, ◌++◌, Option, None, Some, Result, Ok, Err, bytes_eq, codes, slice_get, unwrap_or}
use Rattle.std.specs.List.{find}
use Rattle.iref.specs.{Characters.{iri_chars, uri_chars}, Faults.{FaultValue, fault_of_authority, fault_of_part}, Rules.{Text}, Texts.{before, after}}
use Rattle.iref.specs.Edits.{EditStep, SetScheme, SetAuthority, ReplaceAuthority, SetUserInfo, SetHost, SetPort, SetPortU32, SetPath, SetAndNormalizePath, SetQuery, SetFragment, LazyPush, Push, JoinPath, Pop, Clear, Normalize, EditsOutcome, edited_all}
use Rattle.iref.specs.Reference.{ReferenceValue, spell}
use Rattle.iref_batch.specs.{EditFields.{EditNames}, Lines.{Answered, edit_names, equals_sign}}
use Rattle.iref_fault.specs.declared.part.PartRule.TheVariants as part
use Rattle.iref_tool.specs.Replies.{Refuses, Reply, WrongWord, and_then, read_all, unless_wrong}
use Rattle.iref_tool.specs.declared.refusal.Reason.{Reason}
use Rattle.iref_tool.specs.declared.refusal.Reason.TheVariants as reason

-- what a value is called, and the fault of a text as such a value
abbrev pub ValueKind : Type 0
ValueKind = Text × (Text → Option FaultValue)

-- schemes and ports have no characters beyond those of URIs
abbrev pub value_kind : EditStep → Option ValueKind
value_kind (SetScheme scheme) = Some (codes "scheme", fault_of_part uri_chars part.Scheme)
value_kind (SetAuthority authority) = Some (codes "authority", fault_of_authority iri_chars)
value_kind (ReplaceAuthority authority) = Some (codes "authority", fault_of_authority iri_chars)
value_kind (SetUserInfo user_info) = Some (codes "user info", fault_of_part iri_chars part.UserInfo)
value_kind (SetHost host) = Some (codes "host", fault_of_part iri_chars part.Host)
value_kind (SetPort port) = Some (codes "port", fault_of_part uri_chars part.Port)
value_kind (SetPortU32 number) = None
value_kind (SetPath p) = Some (codes "path", fault_of_part iri_chars part.Path)
value_kind (SetAndNormalizePath p) = Some (codes "path", fault_of_part iri_chars part.Path)
value_kind (SetQuery query) = Some (codes "query", fault_of_part iri_chars part.Query)
value_kind (SetFragment fragment) = Some (codes "fragment", fault_of_part iri_chars part.Fragment)
value_kind (LazyPush s) = Some (codes "segment", fault_of_part iri_chars part.Segment)
value_kind (Push s) = Some (codes "segment", fault_of_part iri_chars part.Segment)
value_kind (JoinPath p) = Some (codes "path", fault_of_part iri_chars part.Path)
value_kind Pop = None
value_kind Clear = None
value_kind Normalize = None

-- what is read, where the value, if there is one, is of the kind
abbrev pub if_value : {A : Type 0} → Text → Option Text → Option ValueKind → Result A WrongWord → Result A WrongWord
if_value word (Some value) (Some kind) read = unless_wrong (codes "EDIT") kind.0 word value (kind.1 value) read
if_value word value kind read = read

-- a value that may be absent, and one that may not
abbrev pub optional_value : Text → Option Text → ValueKind → Result (Option Text) WrongWord
optional_value word value kind = if_value word value (Some kind) (Ok value)

abbrev pub needed_value : Text → Option Text → ValueKind → Result Text WrongWord
needed_value word None kind = Err (Refuses (codes "EDIT") word reason.NoValue)
needed_value word (Some value) kind = if_value word (Some value) (Some kind) (Ok value)

-- why no edit is made of a value, or of none
abbrev pub no_edit : Option Text → Reason
no_edit None = reason.NoValue
no_edit (Some value) = reason.Value

abbrev pub edit_with : Text → Option Text → Option EditStep → Result EditStep WrongWord
edit_with word value None = Err (Refuses (codes "EDIT") word (no_edit value))
edit_with word value (Some step) = if_value word value (value_kind step) (Ok step)

-- the edit of a word that is read as this name and this value, by names
abbrev pub named_edit : EditNames → Text → Text → Option Text → Result EditStep WrongWord
named_edit names word name value =
    elim (find (λ e. bytes_eq e.0 name) names) [
      | None ↦ Err (Refuses (codes "EDIT") word reason.NoEdit)
      | Some e ↦ edit_with word value (e.1 value)
    ]

-- the edit that a word names
abbrev pub edit_of : Text → Result EditStep WrongWord
edit_of word = named_edit edit_names word (before (equals_sign ∷ []) word) (after equals_sign word)

-- the edits before, and the one that a word names
abbrev pub with_edit : List EditStep → Text → Result (List EditStep) WrongWord
with_edit steps word = and_then (λ step. Ok (steps ++ step ∷ [])) (edit_of word)

-- the edits that words name, or the first word that is wrong
abbrev pub edits_of : List Text → Result (List EditStep) WrongWord
edits_of words = read_all with_edit [] words

-- the reference after the edits, or the word of the edit that is refused
abbrev pub edits_reply : List Text → EditsOutcome → Reply
edits_reply words (Ok r) = Ok (Answered (spell r))
edits_reply words (Err refused) = Err (Refuses (codes "EDIT") (unwrap_or (slice_get words refused.0) []) reason.NoAuthority)

abbrev pub edited_by_words : List Text → ReferenceValue → Reply
edited_by_words words r = and_then (λ steps. edits_reply words (edited_all steps r)) (edits_of words)

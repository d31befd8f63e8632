-- The program's answers to lines, over the texts of URIs or of IRIs.
use Rattle.std.specs.Prelude.{ℕ, Bool, true, false, ◌&&◌, List, [], ◌∷◌, ◌++◌, map, bytes_eq, codes, Option, Some, None, Result, Ok, Err, option_map, option_and_then, unwrap_or, is_some, if◌then◌else◌}
use Rattle.std.specs.{Str.{is_utf8}, List.{list_all, find, flat_map, join_with_byte}}
use Rattle.iref.specs.{Rules.{Text}, Characters.{CharTests}, Texts.{before, after, pieces_at, is_empty}}
use Rattle.iref.specs.Tests.{is_scheme, is_user_info, is_host, is_port, is_path, is_segment, is_query, is_fragment, none_or}
use Rattle.iref.specs.{IpAddresses.{all_some}, Authority.{is_authority}, PathValue.{spell_path, read_path}}
use Rattle.iref.specs.{Guard.{guarded}, ComponentTexts.{ComponentTexts, spell_components}, Contexts.{alone}}
use Rattle.iref.specs.{NormalList.{normal}, Reference.{spell, read_reference, is_reference, is_uri}}
use Rattle.iref.specs.{Resolution.{resolved}, Key.{are_alike}, Relative.{relative_to}, Mapping.{mapped}}
use Rattle.iref.specs.PrefixTable.{PrefixEntry, PrefixTable, ascii_table, inserted_all, compacted, compact_text, ExpandRefusal, expanded}
use Rattle.iref.specs.Edits.{EditStep, SetScheme, SetAuthority, ReplaceAuthority, SetUserInfo, SetHost, SetPort, SetPortU32, SetPath, SetAndNormalizePath, SetQuery, SetFragment, LazyPush, Push, JoinPath, Pop, Clear, Normalize, EditsOutcome, edited_all}

abbrev pub tab : ℕ
tab = 9

abbrev pub newline : ℕ
newline = 10

abbrev pub equals_sign : ℕ
equals_sign = 61

-- what a line asks for
pub data Request : Type 0 where
  Parts : Text → Request
  Resolve : Text → Text → Request
  Relative : Text → Text → Request
  Normal : Text → Request
  Equal : Text → Text → Request
  Edit : Text → List EditStep → Request
  ToUri : Text → Request
  Compact : Text → List PrefixEntry → Request
  Expand : Text → List PrefixEntry → Request

pub data LineAnswer : Type 0 where
  Answered : Text → LineAnswer
  BadCommand : LineAnswer
  InvalidText : LineAnswer
  RefusedEdit : LineAnswer

-- the edit, if there is no value
abbrev pub bare : EditStep → Option Text → Option EditStep
bare step None = Some step
bare step (Some value) = None

-- the edits by name: with an optional value, a value, and none
abbrev pub edit_names : List (Text × (Option Text → Option EditStep))
edit_names =
    (codes "scheme", λ v. Some (SetScheme v)) ∷ (codes "authority", λ v. Some (SetAuthority v))
    ∷ (codes "replace-authority", option_map ReplaceAuthority) ∷ (codes "user", λ v. Some (SetUserInfo v))
    ∷ (codes "host", option_map SetHost) ∷ (codes "port", λ v. Some (SetPort v)) ∷ (codes "path", option_map SetPath)
    ∷ (codes "normal-path", option_map SetAndNormalizePath) ∷ (codes "query", λ v. Some (SetQuery v))
    ∷ (codes "fragment", λ v. Some (SetFragment v)) ∷ (codes "lazy-push", option_map LazyPush) ∷ (codes "push", option_map Push)
    ∷ (codes "join", option_map JoinPath) ∷ (codes "pop", bare Pop) ∷ (codes "clear", bare Clear)
    ∷ (codes "normalize", bare Normalize) ∷ []

-- a field is a name, or a name, `=` and a value
abbrev pub read_edit : Text → Option EditStep
read_edit field =
    option_and_then (λ e. e.1 (after equals_sign field))
    (find (λ e. bytes_eq e.0 (before (equals_sign ∷ []) field)) edit_names)

-- a field `label=IRI`
abbrev pub read_entry : Text → Option PrefixEntry
read_entry field = option_map (λ iri. record { label = before (equals_sign ∷ []) field; iri = iri }) (after equals_sign field)

-- the request about the text of one field
abbrev pub one_text : (Text → Request) → List Text → Option Request
one_text request [] = None
one_text request (r ∷ fields) = if is_empty fields then Some (request r) else None

-- the request about the texts of two fields
abbrev pub two_texts : (Text → Text → Request) → List Text → Option Request
two_texts request [] = None
two_texts request (r ∷ fields) = one_text (request r) fields

-- a text, and edits of it
abbrev pub text_and_edits : List Text → Option Request
text_and_edits [] = None
text_and_edits (r ∷ fields) = option_map (Edit r) (all_some (map read_edit fields))

-- a text, and entries of a table
abbrev pub text_and_entries : (Text → List PrefixEntry → Request) → List Text → Option Request
text_and_entries request [] = None
text_and_entries request (t ∷ fields) = option_map (request t) (all_some (map read_entry fields))

-- verbs, each with what its fields ask for
abbrev pub Verbs : Type 0
Verbs = List (Text × (List Text → Option Request))

-- the verbs, each with its number of fields
abbrev pub all_verbs : Verbs
all_verbs =
    (codes "parts", one_text Parts) ∷ (codes "resolve", two_texts Resolve) ∷ (codes "relative", two_texts Relative)
    ∷ (codes "normal", one_text Normal) ∷ (codes "equal", two_texts Equal) ∷ (codes "edit", text_and_edits)
    ∷ (codes "to-uri", one_text ToUri) ∷ (codes "compact", text_and_entries Compact) ∷ (codes "expand", text_and_entries Expand) ∷ []

abbrev pub read_fields : Verbs → List Text → Option Request
read_fields verbs [] = None
read_fields verbs (verb ∷ fields) = option_and_then (λ v. v.1 fields) (find (λ v. bytes_eq v.0 verb) verbs)

unfoldable pub read_line : Verbs → Text → Option Request
read_line verbs line = read_fields verbs (pieces_at tab line)

-- the value of the edit is in its grammar
abbrev pub is_valid_edit : CharTests → EditStep → Bool
is_valid_edit set (SetScheme scheme) = none_or is_scheme scheme
is_valid_edit set (SetAuthority authority) = none_or (is_authority set) authority
is_valid_edit set (ReplaceAuthority authority) = is_authority set authority
is_valid_edit set (SetUserInfo user_info) = none_or (is_user_info set) user_info
is_valid_edit set (SetHost host) = is_host set host
is_valid_edit set (SetPort port) = none_or is_port port
is_valid_edit set (SetPortU32 number) = true
is_valid_edit set (SetPath p) = is_path set p
is_valid_edit set (SetAndNormalizePath p) = is_path set p
is_valid_edit set (SetQuery query) = none_or (is_query set) query
is_valid_edit set (SetFragment fragment) = none_or (is_fragment set) fragment
is_valid_edit set (LazyPush s) = is_segment set s
is_valid_edit set (Push s) = is_segment set s
is_valid_edit set (JoinPath p) = is_path set p
is_valid_edit set Pop = true
is_valid_edit set Clear = true
is_valid_edit set Normalize = true

-- all IRIs are in their grammar, and one table takes all entries
abbrev pub are_valid_entries : CharTests → List PrefixEntry → Bool
are_valid_entries set entries = list_all (λ (e : PrefixEntry). is_uri set e.iri) entries && is_some (inserted_all entries (ascii_table []))

-- each text of the request is in its grammar
unfoldable pub is_valid : CharTests → Request → Bool
is_valid set (Parts r) = is_reference set r
is_valid set (Resolve r base) = is_reference set r && is_uri set base
is_valid set (Relative target base) = is_reference set target && is_reference set base
is_valid set (Normal p) = is_path set p
is_valid set (Equal r s) = is_reference set r && is_reference set s
is_valid set (Edit r edits) = is_reference set r && list_all (is_valid_edit set) edits
is_valid set (ToUri r) = is_reference set r
is_valid set (Compact iri entries) = is_uri set iri && are_valid_entries set entries
is_valid set (Expand text entries) = is_utf8 text && are_valid_entries set entries

-- `-` where a part is absent, else `=` and its text
abbrev pub part_field : Option Text → Text
part_field None = codes "-"
part_field (Some part) = equals_sign ∷ part

abbrev pub part_fields : ComponentTexts → Text
part_fields t =
    join_with_byte tab
    (part_field t.scheme ∷ part_field t.authority ∷ part_field (Some t.path) ∷ part_field t.query ∷ part_field t.fragment ∷ [])

abbrev pub edits_answer : EditsOutcome → LineAnswer
edits_answer (Ok r) = Answered (spell r)
edits_answer (Err refused) = RefusedEdit

abbrev pub yes_or_no : Bool → Text
yes_or_no equal = if equal then codes "yes" else codes "no"

-- the table of entries that can be inserted
abbrev pub table_of : List PrefixEntry → PrefixTable
table_of entries = (unwrap_or (inserted_all entries (ascii_table [])) (ascii_table [])).entries

abbrev pub expanded_answer : Result Text ExpandRefusal → LineAnswer
expanded_answer (Ok iri) = Answered iri
expanded_answer (Err refusal) = InvalidText

unfoldable pub answer_to : Request → LineAnswer
answer_to (Parts r) = Answered (part_fields (spell_components (read_reference r)))
answer_to (Resolve r base) = Answered (spell (resolved (read_reference base) (read_reference r)))
answer_to (Relative target base) = Answered (spell (relative_to (read_reference target) (read_reference base)))
answer_to (Normal p) = Answered (spell_path (guarded alone (normal (read_path p))))
answer_to (Equal r s) = Answered (yes_or_no (are_alike (read_reference r) (read_reference s)))
answer_to (Edit r edits) = edits_answer (edited_all edits (read_reference r))
answer_to (ToUri r) = Answered (mapped r)
answer_to (Compact iri entries) = Answered (part_field (option_map compact_text (compacted iri (table_of entries))))
answer_to (Expand text entries) = expanded_answer (expanded text (table_of entries))

-- first the command is looked at, then the texts, then the edits
abbrev pub answer_if_valid : CharTests → Request → LineAnswer
answer_if_valid set request = elim (is_valid set request) [ true ↦ answer_to request | false ↦ InvalidText ]

unfoldable pub answer : CharTests → Verbs → Text → LineAnswer
answer set verbs line = elim (read_line verbs line) [ None ↦ BadCommand | Some request ↦ answer_if_valid set request ]

abbrev pub answer_text : LineAnswer → Text
answer_text (Answered text) = codes "ok" ++ tab ∷ text
answer_text BadCommand = codes "error command"
answer_text InvalidText = codes "error invalid"
answer_text RefusedEdit = codes "error edit"

-- the lines without the last one, if that is empty
abbrev pub without_empty_last : List Text → List Text
without_empty_last [] = []
without_empty_last (line ∷ lines) =
    if is_empty lines then (if is_empty line then [] else line ∷ []) else line ∷ without_empty_last lines

-- lines end with a newline; a last one without it counts if it is not empty
abbrev pub lines_of : Text → List Text
lines_of input = without_empty_last (pieces_at newline input)

-- what a program with these verbs, over these texts, writes for what it reads, where memory is found
unfoldable pub output : CharTests → Verbs → Text → Text
output set verbs input = flat_map (λ line. answer_text (answer set verbs line) ++ newline ∷ []) (lines_of input)

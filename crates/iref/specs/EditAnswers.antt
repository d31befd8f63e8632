-- What a list of edits leaves, and where it stops.
use Rattle.std.specs.Prelude.{◌≡◌, ℕ, Bool, true, false, List, take, slice_get, Option, None, is_some, Result, MatchResult, Ok, Err, IsOk, OnOk, OnErr, IsSomeAnd, if◌then◌else◌}
use Rattle.iref_grammar.specs.{Rules.{Text}, Reference.{ReferenceValue, context_of, read_reference, spell}}
use Rattle.iref_grammar.specs.Edits as model
use Rattle.iref_grammar.specs.Edits.{EditStep, SetScheme, SetAuthority, ReplaceAuthority, SetUserInfo, SetHost, SetPort, SetPortU32, SetAndNormalizePath, SetQuery, SetFragment, LazyPush, Push, JoinPath, Pop, Clear, Normalize, Edited, edited, edited_uri, edited_from}
use Rattle.iref_grammar.specs.PathSteps.{normalized}
use Rattle.iref_reference.specs.declared.owned.ReferenceBuf.{ReferenceBuf}
use Rattle.iref_reference.specs.References.{reference_buf_text, reference_buf_value}
use Rattle.iref.specs.declared.edits.EditFault.{EditFault}
use Rattle.iref.specs.declared.edits.EditFault.TheVariants.{NoAuthority, SchemeNeeded, Memory}

-- what takes a component away, or all segments, takes no memory
abbrev pub may_take_memory : EditStep → Bool
may_take_memory (SetScheme scheme) = is_some scheme
may_take_memory (SetAuthority authority) = is_some authority
may_take_memory (SetUserInfo user_info) = is_some user_info
may_take_memory (SetPort port) = is_some port
may_take_memory (SetPortU32 number) = is_some number
may_take_memory (SetQuery query) = is_some query
may_take_memory (SetFragment fragment) = is_some fragment
may_take_memory Clear = false
may_take_memory edit = true

-- an edit is refused for this reason; or it is not refused, and is out of memory
abbrev pub Refuses : Edited → EditStep → ReferenceValue → EditFault → Type 0
Refuses edited edit r NoAuthority = edited edit r ≡ Err model.NoAuthority
Refuses edited edit r SchemeNeeded = edited edit r ≡ Err model.SchemeNeeded
Refuses edited edit r Memory = IsOk (edited edit r) × (may_take_memory edit ≡ true)

-- the edit is done, or refused with nothing changed
abbrev pub AppliesEdit : Edited → EditStep → Text → Text → Result (Unit {0}) EditFault → Type 0
AppliesEdit edited edit old new (Ok done) = edited edit (read_reference old) ≡ Ok (read_reference new)
AppliesEdit edited edit old new (Err error) = (new ≡ old) × Refuses edited edit (read_reference old) error

-- the edit is done; or it may take memory, is out of memory, and changes nothing
abbrev pub DoesEdit : {E : Type 0} → EditStep → Text → Text → Result (Unit {0}) E → Type 0
DoesEdit edit old new result =
    OnOk result (edited edit (read_reference old) ≡ Ok (read_reference new)) × OnErr result ((new ≡ old) × (may_take_memory edit ≡ true))

-- `edited` where the rule allows an absent scheme, and else `edited_uri`
abbrev pub edited_in : (Option Text → Bool) → Edited
edited_in allows = if allows None then edited else edited_uri

-- all edits are done, one after the other
abbrev pub AreDone : Edited → List EditStep → ReferenceValue → ReferenceValue → Type 0
AreDone edited edits old new = edited_from edited 0 edits old ≡ Ok new

-- the edit of this number is refused, or it is not refused and is out of memory; and those before it are done
abbrev pub StopsAt : Edited → List EditStep → ReferenceValue → ReferenceValue → ℕ → EditFault → Type 0
StopsAt edited edits old new i NoAuthority = edited_from edited 0 edits old ≡ Err (i, model.NoAuthority, new)
StopsAt edited edits old new i SchemeNeeded = edited_from edited 0 edits old ≡ Err (i, model.SchemeNeeded, new)
StopsAt edited edits old new i Memory =
    AreDone edited (take i edits) old new × IsSomeAnd (slice_get edits i) (λ edit. Refuses edited edit new Memory)

-- all edits are done, or those before the one that stops
abbrev pub AppliesEdits : Edited → List EditStep → ReferenceValue → ReferenceValue → Result (Unit {0}) (ℕ × EditFault) → Type 0
AppliesEdits edited edits old new result = MatchResult result (λ _. AreDone edited edits old new) (λ stop. StopsAt edited edits old new stop.0 stop.1)

-- `AppliesEdits` on an owned value, whose new text is the spelling of its new value
abbrev pub AppliesTo : {R C K : _} → Edited → List EditStep → ReferenceBuf R C K → ReferenceBuf R C K → Result (Unit {0}) (ℕ × EditFault) → Type 0
AppliesTo edited edits old new result =
    AppliesEdits edited edits (reference_buf_value old) (reference_buf_value new) result × (reference_buf_text new ≡ spell (reference_buf_value new))

-- an edit of the path alone
abbrev pub is_path_edit : EditStep → Bool
is_path_edit (LazyPush segment) = true
is_path_edit (Push segment) = true
is_path_edit (JoinPath path) = true
is_path_edit Pop = true
is_path_edit Clear = true
is_path_edit Normalize = true
is_path_edit edit = false

-- an edit of a part of the authority
abbrev pub is_authority_edit : EditStep → Bool
is_authority_edit (ReplaceAuthority authority) = true
is_authority_edit (SetUserInfo user_info) = true
is_authority_edit (SetHost host) = true
is_authority_edit (SetPort port) = true
is_authority_edit (SetPortU32 number) = true
is_authority_edit edit = false

-- an edit that leaves the query and the fragment as they are
abbrev pub keeps_query_and_fragment : EditStep → Bool
keeps_query_and_fragment (SetQuery query) = false
keeps_query_and_fragment (SetFragment fragment) = false
keeps_query_and_fragment edit = true

-- the path is normal where it stands: to normalize it changes nothing
abbrev pub HasNormalPath : ReferenceValue → Type 0
HasNormalPath r = normalized (context_of r) r.path ≡ r.path

-- whether the path is known to be normal after an edit, and was or was not before it
abbrev pub is_normal_after : EditStep → Bool → Bool
is_normal_after (SetAndNormalizePath p) was = true
is_normal_after Normalize was = true
is_normal_after (ReplaceAuthority authority) was = was
is_normal_after (SetUserInfo user_info) was = was
is_normal_after (SetHost host) was = was
is_normal_after (SetPort port) was = was
is_normal_after (SetPortU32 number) was = was
is_normal_after (SetQuery query) was = was
is_normal_after (SetFragment fragment) was = was
is_normal_after edit was = false

-- Lists of edits of a buffer.
use Rattle.std.specs.Prelude.{ℕ, ◌+◌, Bool, true, false, List, [], ◌∷◌, Option, None, Result, Ok, Err, is_some, option_map, if◌then◌else◌}
use Rattle.iref_grammar.specs.{Rules.{Text}, Authority.{AuthorityValue, read_authority}, PathValue.{read_path}}
use Rattle.iref_grammar.specs.Reference.{ReferenceValue}
use Rattle.iref_grammar.specs.AuthoritySteps.{with_user_info, with_host, with_port}
use Rattle.iref_grammar.specs.PathSteps.{lazy_pushed, pushed, joined, popped, cleared, normalized}
use Rattle.iref_grammar.specs.ComponentSteps.{with_scheme, with_authority, with_path, with_query, with_fragment, with_authority_step, with_path_step, with_new_normal_path}
use Rattle.iref_grammar.specs.PortNumbers.{port_text}

-- an edit, with the texts that it gives
pub data EditStep : Type 0 where
  SetScheme : Option Text → EditStep
  SetAuthority : Option Text → EditStep
  ReplaceAuthority : Text → EditStep
  SetUserInfo : Option Text → EditStep
  SetHost : Text → EditStep
  SetPort : Option Text → EditStep
  SetPortU32 : Option ℕ → EditStep
  SetPath : Text → EditStep
  SetAndNormalizePath : Text → EditStep
  SetQuery : Option Text → EditStep
  SetFragment : Option Text → EditStep
  LazyPush : Text → EditStep
  Push : Text → EditStep
  JoinPath : Text → EditStep
  Pop : EditStep
  Clear : EditStep
  Normalize : EditStep

-- why an edit is refused
pub data EditRefusal : Type 0 where
  NoAuthority : EditRefusal
  SchemeNeeded : EditRefusal

-- the edit of a part of the authority needs one
abbrev pub with_authority_part : (AuthorityValue → AuthorityValue) → ReferenceValue → Result ReferenceValue EditRefusal
with_authority_part step r = if is_some r.authority then Ok (with_authority_step step r) else Err NoAuthority

-- a reference after the edit, or why it is refused
unfoldable pub edited : EditStep → ReferenceValue → Result ReferenceValue EditRefusal
edited (SetScheme scheme) r = Ok (with_scheme scheme r)
edited (SetAuthority authority) r = Ok (with_authority (option_map read_authority authority) r)
edited (ReplaceAuthority authority) r = with_authority_part (λ a. read_authority authority) r
edited (SetUserInfo user_info) r = with_authority_part (with_user_info user_info) r
edited (SetHost host) r = with_authority_part (with_host host) r
edited (SetPort port) r = with_authority_part (with_port port) r
edited (SetPortU32 number) r = with_authority_part (with_port (option_map port_text number)) r
edited (SetPath p) r = Ok (with_path (read_path p) r)
edited (SetAndNormalizePath p) r = Ok (with_new_normal_path (read_path p) r)
edited (SetQuery query) r = Ok (with_query query r)
edited (SetFragment fragment) r = Ok (with_fragment fragment r)
edited (LazyPush s) r = Ok (with_path_step (λ context p. lazy_pushed context s p) r)
edited (Push s) r = Ok (with_path_step (λ context p. pushed context s p) r)
edited (JoinPath new) r = Ok (with_path_step (λ context p. joined context (read_path new) p) r)
edited Pop r = Ok (with_path_step popped r)
edited Clear r = Ok (with_path_step (λ context p. cleared p) r)
edited Normalize r = Ok (with_path_step normalized r)

abbrev pub drops_scheme : EditStep → Bool
drops_scheme (SetScheme None) = true
drops_scheme edit = false

-- the same of a URI, which keeps a scheme
unfoldable pub edited_uri : EditStep → ReferenceValue → Result ReferenceValue EditRefusal
edited_uri edit r = if drops_scheme edit then Err SchemeNeeded else edited edit r

-- what a list of edits leaves: the reference after all of them; or the number of the first that is refused, why, and the
-- reference after those before it
abbrev pub EditsOutcome : Type 0
EditsOutcome = Result ReferenceValue (ℕ × EditRefusal × ReferenceValue)

abbrev pub Edited : Type 0
Edited = EditStep → ReferenceValue → Result ReferenceValue EditRefusal

abbrev pub unless_refused : ℕ → ReferenceValue → (ReferenceValue → EditsOutcome) → Result ReferenceValue EditRefusal → EditsOutcome
unless_refused i r others (Ok after) = others after
unless_refused i r others (Err refusal) = Err (i, refusal, r)

-- the edits one after the other, numbered from i, up to the first that is refused
unfoldable pub edited_from : Edited → ℕ → List EditStep → ReferenceValue → EditsOutcome
edited_from step i [] r = Ok r
edited_from step i (edit ∷ edits) r = unless_refused i r (edited_from step (i + 1) edits) (step edit r)

-- `apply_all`, of a reference
abbrev pub edited_all : List EditStep → ReferenceValue → EditsOutcome
edited_all edits r = edited_from edited 0 edits r

-- `apply_all_uri`, of a URI
abbrev pub edited_all_uri : List EditStep → ReferenceValue → EditsOutcome
edited_all_uri edits r = edited_from edited_uri 0 edits r

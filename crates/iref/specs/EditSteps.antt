-- The step of the model that each edit stands for.
use Rattle.std.specs.{Prelude.{ℕ, Bool, List, map, Option, option_map, Result}, List.{list_all}}
use Rattle.iref_grammar.specs.Edits as model
use Rattle.iref_grammar.specs.Edits.{EditStep}
use Rattle.iref_component.specs.Components.{text_of}
use Rattle.iref_grammar.specs.Rules.{Text}
use Rattle.iref_reference.specs.{declared.owned.ReferenceBuf.{ReferenceBuf}, References.{reference_buf_value}}
use Rattle.iref.specs.EditAnswers.{AppliesEdits, edited_in, keeps_query_and_fragment}
use Rattle.iref.specs.{declared.edits.EditFault.{EditFault}, declared.edits.Edit.{Edit}}
use Rattle.iref.specs.declared.edits.Edit.TheVariants.{SetScheme, SetAuthority, ReplaceAuthority, SetUserInfo, SetHost, SetPort, SetPortU32, SetPath, SetAndNormalizePath, SetQuery, SetFragment, LazyPush, Push, JoinPath, Pop, Clear, Normalize}

-- the step that an edit is
abbrev pub edit_step : {C : _} {c : _} → Edit C c → EditStep
edit_step (SetScheme scheme) = model.SetScheme (option_map text_of scheme)
edit_step (SetAuthority authority) = model.SetAuthority (option_map text_of authority)
edit_step (ReplaceAuthority authority) = model.ReplaceAuthority (text_of authority)
edit_step (SetUserInfo user_info) = model.SetUserInfo (option_map text_of user_info)
edit_step (SetHost host) = model.SetHost (text_of host)
edit_step (SetPort port) = model.SetPort (option_map text_of port)
edit_step (SetPortU32 number) = model.SetPortU32 number
edit_step (SetPath path) = model.SetPath (text_of path)
edit_step (SetAndNormalizePath path) = model.SetAndNormalizePath (text_of path)
edit_step (SetQuery query) = model.SetQuery (option_map text_of query)
edit_step (SetFragment fragment) = model.SetFragment (option_map text_of fragment)
edit_step (LazyPush segment) = model.LazyPush (text_of segment)
edit_step (Push segment) = model.Push (text_of segment)
edit_step (JoinPath path) = model.JoinPath (text_of path)
edit_step Pop = model.Pop
edit_step Clear = model.Clear
edit_step Normalize = model.Normalize

-- each edit leaves the query and the fragment as they are
abbrev pub all_keep_query_and_fragment : {C : _} {c : _} → List (Edit C c) → Bool
all_keep_query_and_fragment edits = list_all (λ edit. keeps_query_and_fragment (edit_step edit)) edits

-- all edits of the list are done by a rule that allows these schemes, or those before the one that stops
abbrev pub AppliesList : {R C K : _} {c : _} → (Option Text → Bool) → List (Edit C c) → ReferenceBuf R C K → ReferenceBuf R C K → Result (Unit {0}) (ℕ × EditFault) → Type 0
AppliesList allows edits old new result = AppliesEdits (edited_in allows) (map edit_step edits) (reference_buf_value old) (reference_buf_value new) result

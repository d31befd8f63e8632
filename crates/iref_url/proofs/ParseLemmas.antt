-- What is in its rule is not refused.
use Rattle.std.proofs.Common.{refl, Result, Ok, Err, IsOk}
use Rattle.iref_grammar.specs.Rules.{Text}
use Rattle.iref_component.specs.Makers.{Parses}

pub ok_if_in : {V E : Type 0} (rule : Text → Type 0) (text : Text) (text_of : V → Text) (holds_input : E → Type 0) (result : Result V E) → Parses rule text text_of holds_input result → rule text → IsOk result
ok_if_in rule text text_of holds_input (Ok v) parsed inside = refl
ok_if_in rule text text_of holds_input (Err e) refused inside = absurd (refused.0 inside)

-- What the result of an edit by a text says of the text.
use Rattle.std.specs.Prelude.{Result, MatchResult}
use Rattle.iref_fault.specs.{declared.edit.TryError.{TryError}, declared.edit.TryError.TheVariants.{Invalid, Memory}}

-- Invalid only where the text is not in its rule, and it holds the text; Memory only where it is
abbrev pub InvalidIfOutside : {E : Type 0} → Type 0 → (E → Type 0) → TryError E → Type 0
InvalidIfOutside in_rule hands_back (Invalid error) = ¬ in_rule × hands_back error
InvalidIfOutside in_rule hands_back Memory = in_rule

-- an edit by a text that is not in its rule is refused, and hands the text back; no other edit is refused so
abbrev pub TellsInvalid : {V E : Type 0} → Type 0 → (E → Type 0) → Result V (TryError E) → Type 0
TellsInvalid in_rule hands_back result = MatchResult result (λ _. in_rule) (InvalidIfOutside in_rule hands_back)

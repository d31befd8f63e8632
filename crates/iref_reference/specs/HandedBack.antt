-- What calls promise that take an owned value and return it in their error.
use Rattle.std.specs.Prelude.{Result, MatchResult}
use Rattle.iref_fault.specs.{declared.edit.TryError.{TryError}, Tried.{InvalidIfOutside}}

-- as TellsInvalid, of an error beside the owned value
abbrev pub TellsInvalidBeside : {V O E : Type 0} → Type 0 → (E → Type 0) → Result V (O × TryError E) → Type 0
TellsInvalidBeside in_rule hands_back result = MatchResult result (λ _. in_rule) (λ error. InvalidIfOutside in_rule hands_back error.1)

-- What the result of an edit by a text says of the text.
use Rattle.std.specs.{Borrow.{Bor}, Prelude.{◌≡◌, Option, Some, IfSome, IsNone, IsOk, Result}, Option.{option_copied}}
use Rattle.iref_grammar.specs.Rules.{Text, InUtf8}
use Rattle.iref_fault.specs.{declared.edit.TryError.{TryError}, Tried.{TellsInvalid}}

-- it is refused as invalid exactly where the text is not in its rule, and the error holds the text
abbrev pub Tests : {V E : Type 0} → (Text → Type 0) → Bor Text → (E → Bor Text) → Result V (TryError E) → Type 0
Tests rule text held result = TellsInvalid (InUtf8 rule text.now) (λ error. held error ≡ text) result

-- the same of a text that may be absent, and then the edit is not refused at all
abbrev pub TestsIfSome : {V E : Type 0} → (Text → Type 0) → Option (Bor Text) → (E → Bor Text) → Result V (TryError E) → Type 0
TestsIfSome rule text held result =
    TellsInvalid (IfSome (option_copied text) (InUtf8 rule)) (λ error. text ≡ Some (held error)) result × (IsNone text → IsOk result)

-- Where a part stands that is edited.
use Rattle.std.specs.Prelude.{ℕ, ◌≡◌, ◌≤◌, Bool, true, List, length, slice_range}
use Rattle.std.proofs.Props.{props}

-- the range lies in the bytes, and what stands there passes the test
abbrev pub StandsIn : {X : Type 0} → (X → List ℕ → Bool) → List ℕ → X → ℕ → ℕ → Type 0
StandsIn test text context start end = (start ≤ end) × (end ≤ length text) × (test context (slice_range text start end) ≡ true)

pub one_range : {X : Type 0} (test : X → List ℕ → Bool) (text : List ℕ) (context : X) (start end : ℕ) → IsProp (StandsIn test text context start end)
one_range test text context start end = hlevel props

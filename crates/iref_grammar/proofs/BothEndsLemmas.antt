-- The normal list from both ends.
use Rattle.std.proofs.Common.{◌≡◌, ℕ, List, [], ◌∷◌, ◌++◌, reverse, refl, arith, Option, Some, None}
use Rattle.std.proofs.lemmas.Grind.{common_steps, reverse_onto}
use Rattle.iref_grammar.specs.{Rules.{Text}, PathValue.{PathValue}}
use Rattle.iref_grammar.specs.NormalList.{normal_segments}
use Rattle.iref_grammar.specs.NormalReading.{staying_before, NormalRest, items_left, whole_rest, first_staying, last_staying, first_left, last_left, GivesFirst, GivesLast}
use Rattle.iref_grammar.proofs.{StayingLemmas.{staying_before-append}, ItemLemmas.{normal_segments-is}}

-- at the start the whole normal list is left
pub whole_rest-is : (p : PathValue) → items_left (whole_rest p) ≡ normal_segments p
whole_rest-is p = grind (arith, normal_segments-is)

-- ---- from the front

abbrev IsFirstStaying : List Text → ℕ → Option (Text × List Text) → Type 0
IsFirstStaying list behind None = staying_before list behind ≡ []
IsFirstStaying list behind (Some found) = staying_before list behind ≡ found.0 ∷ staying_before found.1 behind

pub first_staying-is : (list : List Text) (behind : ℕ) → IsFirstStaying list behind (first_staying list behind)
first_staying-is [] behind = refl
first_staying-is (s ∷ rest) behind = grind (arith, first_staying-is rest behind)

pub first_left-gives : (rest : NormalRest) → GivesFirst (items_left rest) (first_left rest)
first_left-gives rest = grind (arith, common_steps, first_staying-is)

-- ---- from the back

abbrev IsLastStaying : List Text → ℕ → Option (Text × List Text) → Type 0
IsLastStaying back behind None = staying_before (reverse back) behind ≡ []
IsLastStaying back behind (Some found) = staying_before (reverse back) behind ≡ staying_before (reverse found.1) 0 ++ found.0 ∷ []

pub last_staying-is : (back : List Text) (behind : ℕ) → IsLastStaying back behind (last_staying back behind)
last_staying-is [] behind = refl
last_staying-is (s ∷ before) behind = grind (arith, common_steps, reverse_onto, staying_before-append, last_staying-is before)

pub last_left-gives : (rest : NormalRest) → GivesLast (items_left rest) (last_left rest)
last_left-gives rest = grind (arith, common_steps, last_staying-is)

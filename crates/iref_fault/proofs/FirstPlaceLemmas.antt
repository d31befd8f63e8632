-- Places of pieces in bytes: of one piece, of two lists of pieces, and how far a place is.
use Rattle.std.proofs.Common.{◌≡◌, ℕ, ◌+◌, ◌<◌, List, [], ◌∷◌, ◌++◌, length, refl, ap, ◌∙◌, arith, chars, IsUtf8, Option, Some, None, IfSome}
use Rattle.std.specs.Option.{option_or}
use Rattle.iref_grammar.specs.{Characters.{CharTests}, Rules.{Text}}
use Rattle.iref_fault.specs.Cut.{Piece}
use Rattle.iref_fault.specs.BytePlaces.{located, byte_place, place_of_piece, first_place}
use Rattle.iref_fault.proofs.CutSliceLemmas.{whole_slice, slice_boundary}

or-assoc : {A : Type 0} (x y z : Option A) → option_or x (option_or y z) ≡ option_or (option_or x y) z
or-assoc None y z = refl
or-assoc (Some a) y z = refl

pub first_place-append : (set : CharTests) (ps qs : List Piece) → first_place set (ps ++ qs) ≡ option_or (first_place set ps) (first_place set qs)
first_place-append set [] qs = refl
first_place-append set (p ∷ ps) qs =
    ap (option_or (place_of_piece set p)) (first_place-append set ps qs) ∙ or-assoc (place_of_piece set p) (first_place set ps) (first_place set qs)

-- a place is no farther than the text is long
pub place_within : (place : Text → Option ℕ) (t : Text) (start bound : ℕ) → IsUtf8 t → start + length t < bound → IfSome (byte_place place t) (λ n. start + n < bound)
place_within place t start bound u h = by (place (chars t))
  where
    by : (p : Option ℕ) → IfSome (located 0 (chars t) p) (λ n. start + n < bound)
    by None = tt
    by (Some n) = let b = (slice_boundary t 0 t n (whole_slice t u)).0 in omega (arith, b)

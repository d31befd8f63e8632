-- The pieces of a text around a delimiter.
use Rattle.std.proofs.Common.{arith, ◌≡◌, Bool, true, false, cond, List, [], ◌∷◌, ◌++◌, refl, ap, ◌==◌, ℕ}
use Rattle.std.proofs.{lemmas.Bool.{eq-eqb}, lemmas.List.Splits.{slice_split-cons_yes}}
use Rattle.std.specs.List.{onto_first}
use Rattle.iref_grammar.specs.{Rules.{Text}, Texts.{pieces_at}}

-- one piece at least
pub some_piece : (mark : ℕ) (text : Text) → (p : Text) × (ps : List Text) × (pieces_at mark text ≡ p ∷ ps)
some_piece mark [] = ([], [], refl)
some_piece mark (c ∷ text) = by (c == mark) (some_piece mark text)
  where
    by : (b : Bool) → (p : Text) × (ps : List Text) × (pieces_at mark text ≡ p ∷ ps)
        → (p : Text) × (ps : List Text) × (cond b ([] ∷ pieces_at mark text) (onto_first c (pieces_at mark text)) ≡ p ∷ ps)
    by true some = ([], pieces_at mark text, refl)
    by false some = (c ∷ some.0, some.1, ap (onto_first c) some.2)

pub pieces-append : (mark : ℕ) (front back : Text) → pieces_at mark (front ++ mark ∷ back) ≡ pieces_at mark front ++ pieces_at mark back
pieces-append mark [] back = slice_split-cons_yes (λ c. c == mark) mark back (eq-eqb mark mark refl)
pieces-append mark (c ∷ front) back = let some = some_piece mark front in grind (arith, pieces-append mark front back)

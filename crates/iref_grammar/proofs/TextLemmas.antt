-- Cuts at a delimiter, and joins.
use Rattle.std.proofs.Common.{◌≡◌, ℕ, arith, Bool, true, false, not, ◌&&◌, ◌||◌, List, [], ◌∷◌, ◌++◌, refl, ◌∙◌, ◌==◌}
use Rattle.std.proofs.{lemmas.Grind.{common_steps}, lemmas.List.Splits.{join_with_byte-slice_split}}
use Rattle.std.proofs.{lemmas.Bool.{and_from, and_parts}, lemmas.List.Folds.{list_all-append}}
use Rattle.std.specs.{List.{list_all, join_with_byte, onto_first}, Char.{char_set_contains}}
use Rattle.iref_grammar.specs.Rules.{Text}
pub use Rattle.iref_grammar.specs.Texts.{lacks}
use Rattle.iref_grammar.specs.Texts.{pieces_at}

pub first_of_both : (a b : Bool) → (a && b) ≡ true → a ≡ true
first_of_both a b h = (and_parts a b h).0

pub second_of_both : (a b : Bool) → (a && b) ≡ true → b ≡ true
second_of_both a b h = (and_parts a b h).1

-- a list with one more item at its end
pub list_all-snoc : (test : Text → Bool) (list : List Text) (s : Text) → list_all test list ≡ true → test s ≡ true → list_all test (list ++ s ∷ []) ≡ true
list_all-snoc test list s h k = list_all-append test list (s ∷ []) ∙ and_from _ _ h (and_from _ _ k refl)

-- the pieces joined are the text
pub join-pieces_at : (mark : ℕ) (text : Text) → join_with_byte mark (pieces_at mark text) ≡ text
join-pieces_at mark text = join_with_byte-slice_split mark text

-- no piece holds the delimiter
lacks-onto_first : (mark c : ℕ) (pieces : List Text) → (c == mark) ≡ false → list_all (lacks mark) pieces ≡ true → list_all (lacks mark) (onto_first c pieces) ≡ true
lacks-onto_first mark c [] h k = λ i. not (h i || false) && true
lacks-onto_first mark c (p ∷ pieces) h k = (λ i. not (h i || char_set_contains p mark) && list_all (lacks mark) pieces) ∙ k

pub lacks-pieces_at : (mark : ℕ) (text : Text) → list_all (lacks mark) (pieces_at mark text) ≡ true
lacks-pieces_at mark [] = refl
lacks-pieces_at mark (c ∷ cs) = grind (arith, common_steps, lacks-onto_first, lacks-pieces_at mark cs)

-- pieces without the delimiter are read back
pub pieces_at-one : (mark : ℕ) (p : Text) → lacks mark p ≡ true → pieces_at mark p ≡ p ∷ []
pieces_at-one mark [] h = refl
pieces_at-one mark (c ∷ p) h = grind (arith, common_steps, pieces_at-one mark p)

pub pieces_at-front : (mark : ℕ) (p rest : Text) → lacks mark p ≡ true → pieces_at mark (p ++ mark ∷ rest) ≡ p ∷ pieces_at mark rest
pieces_at-front mark [] rest h = grind (arith, common_steps)
pieces_at-front mark (c ∷ p) rest h = grind (arith, common_steps, pieces_at-front mark p rest)

pub pieces_at-join : (mark : ℕ) (p : Text) (pieces : List Text) → list_all (lacks mark) (p ∷ pieces) ≡ true → pieces_at mark (join_with_byte mark (p ∷ pieces)) ≡ p ∷ pieces
pieces_at-join mark p [] h = pieces_at-one mark p (first_of_both _ _ h)
pieces_at-join mark p (q ∷ pieces) h = grind (arith, pieces_at-front, pieces_at-join mark q pieces)

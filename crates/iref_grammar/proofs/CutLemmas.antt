-- Cuts of a text at its first delimiter.
use Rattle.std.proofs.Common.{arith, ◌≡◌, ℕ, ◌+◌, true, false, not, cond, ◌||◌, List, [], ◌∷◌, ◌++◌, take, drop, refl, ◌∙◌, ap, inl, inr, ◌==◌, Option, Some, None}
use Rattle.std.proofs.{lemmas.Bool.Decides.{eqb_tells}, lemmas.List.{take-append-drop, append-nil}}
use Rattle.std.specs.{Char.{char_set_contains}, List.{position_or_len}}
use Rattle.iref_grammar.specs.{Rules.{Text}, Texts.{before, from_first, after, after_first_char, then_part}}
use Rattle.iref_grammar.proofs.TextLemmas.{lacks}

-- what stands before the delimiters, and from the first of them on
pub before-from_first : (marks : List ℕ) (text : Text) → before marks text ++ from_first marks text ≡ text
before-from_first marks text = take-append-drop (position_or_len (char_set_contains marks) text) text

-- at a character that is no delimiter, and at one that is
pub before-no : (marks : List ℕ) (c : ℕ) (cs : Text) → char_set_contains marks c ≡ false → before marks (c ∷ cs) ≡ c ∷ before marks cs
before-no marks c cs h = grind arith

pub from_first-no : (marks : List ℕ) (c : ℕ) (cs : Text) → char_set_contains marks c ≡ false → from_first marks (c ∷ cs) ≡ from_first marks cs
from_first-no marks c cs h = grind arith

pub before-yes : (marks : List ℕ) (c : ℕ) (cs : Text) → char_set_contains marks c ≡ true → before marks (c ∷ cs) ≡ []
before-yes marks c cs h = ap (λ b. take (cond (not b) (1 + position_or_len (char_set_contains marks) cs) 0) (c ∷ cs)) h

pub from_first-yes : (marks : List ℕ) (c : ℕ) (cs : Text) → char_set_contains marks c ≡ true → from_first marks (c ∷ cs) ≡ c ∷ cs
from_first-yes marks c cs h = ap (λ b. drop (cond (not b) (1 + position_or_len (char_set_contains marks) cs) 0) (c ∷ cs)) h

-- a text cut at its first delimiter
pub cut : (mark : ℕ) (text : Text) → before (mark ∷ []) text ++ then_part (mark ∷ []) (after mark text) ≡ text
cut mark [] = refl
cut mark (c ∷ cs) = elim (eqb_tells mark c) [
  | inl e ↦
      let yes : char_set_contains (mark ∷ []) c ≡ true = λ i. e.0 i || false in
      (λ i. before-yes (mark ∷ []) c cs yes i ++ then_part (mark ∷ []) (after_first_char (from_first-yes (mark ∷ []) c cs yes i))) ∙ (λ i. e.1 i ∷ cs)
  | inr e ↦
      let no : char_set_contains (mark ∷ []) c ≡ false = λ i. e.0 i || false in
      (λ i. before-no (mark ∷ []) c cs no i ++ then_part (mark ∷ []) (after_first_char (from_first-no (mark ∷ []) c cs no i))) ∙ ap (λ t. c ∷ t) (cut mark cs)
]

-- a first character other than the delimiter, and the rest without it
pub first_lacks : (mark c : ℕ) (cs : Text) → lacks mark (c ∷ cs) ≡ true → (mark == c) ≡ false
first_lacks mark c cs h = grind arith

pub rest_lacks : (mark c : ℕ) (cs : Text) → lacks mark (c ∷ cs) ≡ true → lacks mark cs ≡ true
rest_lacks mark c cs h = grind arith

pub no_mark : (mark c : ℕ) (cs : Text) → lacks mark (c ∷ cs) ≡ true → char_set_contains (mark ∷ []) c ≡ false
no_mark mark c cs h = λ i. first_lacks mark c cs h i || false

pub is_mark : (mark : ℕ) → char_set_contains (mark ∷ []) mark ≡ true
is_mark mark = elim (eqb_tells mark mark) [ inl e ↦ λ i. e.0 i || false | inr e ↦ absurd (e.1 refl) ]

-- a text without the delimiter, and one that goes on with it
pub before-lacking : (mark : ℕ) (front : Text) → lacks mark front ≡ true → before (mark ∷ []) front ≡ front
before-lacking mark [] h = refl
before-lacking mark (c ∷ cs) h = before-no (mark ∷ []) c cs (no_mark mark c cs h) ∙ ap (λ t. c ∷ t) (before-lacking mark cs (rest_lacks mark c cs h))

pub from_first-lacking : (mark : ℕ) (front : Text) → lacks mark front ≡ true → from_first (mark ∷ []) front ≡ []
from_first-lacking mark [] h = refl
from_first-lacking mark (c ∷ cs) h = from_first-no (mark ∷ []) c cs (no_mark mark c cs h) ∙ from_first-lacking mark cs (rest_lacks mark c cs h)

pub before-mark : (mark : ℕ) (front rest : Text) → lacks mark front ≡ true → before (mark ∷ []) (front ++ mark ∷ rest) ≡ front
before-mark mark [] rest h = before-yes (mark ∷ []) mark rest (is_mark mark)
before-mark mark (c ∷ cs) rest h = before-no (mark ∷ []) c (cs ++ mark ∷ rest) (no_mark mark c cs h) ∙ ap (λ t. c ∷ t) (before-mark mark cs rest (rest_lacks mark c cs h))

pub from_first-mark : (mark : ℕ) (front rest : Text) → lacks mark front ≡ true → from_first (mark ∷ []) (front ++ mark ∷ rest) ≡ mark ∷ rest
from_first-mark mark [] rest h = from_first-yes (mark ∷ []) mark rest (is_mark mark)
from_first-mark mark (c ∷ cs) rest h = from_first-no (mark ∷ []) c (cs ++ mark ∷ rest) (no_mark mark c cs h) ∙ from_first-mark mark cs rest (rest_lacks mark c cs h)

pub before-part : (mark : ℕ) (front : Text) (o : Option Text) → lacks mark front ≡ true → before (mark ∷ []) (front ++ then_part (mark ∷ []) o) ≡ front
before-part mark front None h = ap (before (mark ∷ [])) (append-nil front) ∙ before-lacking mark front h
before-part mark front (Some rest) h = before-mark mark front rest h

pub after-part : (mark : ℕ) (front : Text) (o : Option Text) → lacks mark front ≡ true → after mark (front ++ then_part (mark ∷ []) o) ≡ o
after-part mark front None h = ap (after mark) (append-nil front) ∙ ap after_first_char (from_first-lacking mark front h)
after-part mark front (Some rest) h = ap after_first_char (from_first-mark mark front rest h)

-- What the marks of bytes tell of a text, where a mark is 0 exactly if the byte is allowed.
use Rattle.std.proofs.Common.{◌≡◌, ℕ, ◌+◌, ◌<◌, List, Bool, true, false, eqb, length, get_or, refl, sym, ◌∙◌, arith, Fits, w8}
use Rattle.std.proofs.{lemmas.Bool.{eqb-true, eq-eqb}, lemmas.List.Sums.{AllPass-from_list_all, list_all-from_AllPass}}
use Rattle.std.proofs.lemmas.List.Elements.{All-from_get_or}
use Rattle.std.specs.List.{list_all}
use Rattle.iref_parse.proofs.SeenLemmas.{Seen, unmarked_from_clear, clear_from_unmarked}

-- the mark at index k
abbrev pub marks_at : (ℕ → ℕ) → List ℕ → ℕ → ℕ
marks_at mark bytes k = mark (get_or bytes k 0)

-- a vector that saw all indices says whether one is marked
module _ (mark : ℕ → ℕ) (test : ℕ → Bool) (tells : (b : ℕ) → b < 256 → eqb (mark b) 0 ≡ test b) (bytes v : List ℕ) (fit : (k : ℕ) → Fits w8 (get_or bytes k 0)) (at : ℕ) (near : length bytes < at + 16) (seen : Seen (marks_at mark bytes) (length bytes) at v) where
  all_from_clear : list_all (λ x. eqb x 0) v ≡ true → list_all test bytes ≡ true
  all_from_clear clear =
      list_all-from_AllPass test bytes (All-from_get_or (λ b. test b ≡ true) bytes 0 (λ k l.
      sym (tells (get_or bytes k 0) (fit k).fits) ∙ eq-eqb _ 0 (unmarked_from_clear (marks_at mark bytes) (length bytes) at v near seen clear k (omega arith) l)))

  clear_from_all : list_all test bytes ≡ true → list_all (λ x. eqb x 0) v ≡ true
  clear_from_all all = clear_from_unmarked (marks_at mark bytes) (length bytes) at v near seen (λ k low high.
      eqb-true _ 0 (tells (get_or bytes k 0) (fit k).fits ∙ AllPass-from_list_all test bytes all k 0 high))

  pub all_allowed : list_all (λ x. eqb x 0) v ≡ list_all test bytes
  all_allowed = by (list_all (λ x. eqb x 0) v) (list_all test bytes) refl refl
    where
      by : (a b : Bool) → list_all (λ x. eqb x 0) v ≡ a → list_all test bytes ≡ b → a ≡ b
      by true true e f = refl
      by false false e f = refl
      by true false e f = sym (all_from_clear e) ∙ f
      by false true e f = sym e ∙ clear_from_all f

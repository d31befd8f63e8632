-- A segment of the split path begins with a dot exactly where `.` stands at the front or after `/`.
use Rattle.std.proofs.Common.{◌≡◌, ℕ, List, [], ◌∷◌, Bool, true, false, cond, ◌||◌, eqb, refl, sym, ap, ◌∙◌, arith}
use Rattle.std.specs.List.{list_any, slice_split, onto_first}
use Rattle.std.proofs.lemmas.Bool.Decides.{nat_tests}
use Rattle.iref_parse.specs.Dots.{begins_with, begins_with_dot, has_dotted_segment, has_pair, is_slash_dot}
use Rattle.iref_parse.proofs.PairLemmas.{no_pair}

abbrev parts : List ℕ → List (List ℕ)
parts path = slice_split (λ b. eqb b 0x2F) path

abbrev rest : List (List ℕ) → List (List ℕ)
rest [] = []
rest (s ∷ ss) = ss

-- a segment after the first begins with a dot
abbrev later : List ℕ → Bool
later path = list_any begins_with_dot (rest (parts path))

any_onto_first : (x : ℕ) (ss : List (List ℕ)) → list_any begins_with_dot (onto_first x ss) ≡ (eqb x 0x2E || list_any begins_with_dot (rest ss))
any_onto_first x [] = refl
any_onto_first x (s ∷ ss) = refl

rest_onto_first : (x : ℕ) (ss : List (List ℕ)) → list_any begins_with_dot (rest (onto_first x ss)) ≡ list_any begins_with_dot (rest ss)
rest_onto_first x [] = refl
rest_onto_first x (s ∷ ss) = refl

later_after_slash : (x : ℕ) (xs : List ℕ) → eqb x 0x2F ≡ true → later (x ∷ xs) ≡ has_dotted_segment xs
later_after_slash x xs t = ap (λ b. list_any begins_with_dot (rest (cond b ([] ∷ parts xs) (onto_first x (parts xs))))) t

later_after_other : (x : ℕ) (xs : List ℕ) → eqb x 0x2F ≡ false → later (x ∷ xs) ≡ later xs
later_after_other x xs t = ap (λ b. list_any begins_with_dot (rest (cond b ([] ∷ parts xs) (onto_first x (parts xs))))) t ∙ rest_onto_first x (parts xs)

first_or_later : (path : List ℕ) → has_dotted_segment path ≡ (begins_with_dot path || later path)
first_or_later [] = refl
first_or_later (x ∷ xs) = grind (arith, nat_tests, any_onto_first x (parts xs), rest_onto_first x (parts xs))

begins : (text : List ℕ) → begins_with 0x2E text ≡ begins_with_dot text
begins [] = refl
begins (x ∷ xs) = refl

module _ (x : ℕ) (xs : List ℕ) (before : later xs ≡ has_pair 0x2F 0x2E xs) where
  later_step : (b : Bool) → eqb x 0x2F ≡ b → later (x ∷ xs) ≡ has_pair 0x2F 0x2E (x ∷ xs)
  later_step true t = grind (arith, later_after_slash x xs t, first_or_later xs, begins xs)
  later_step false t = grind (arith, later_after_other x xs t)

later_is : (path : List ℕ) → later path ≡ has_pair 0x2F 0x2E path
later_is [] = refl
later_is (x ∷ xs) = later_step x xs (later_is xs) (eqb x 0x2F) refl

-- a segment begins with a dot where the text does, or where `.` follows `/`
pub dots_by_pairs : (path : List ℕ) → has_dotted_segment path ≡ (begins_with_dot path || has_pair 0x2F 0x2E path)
dots_by_pairs path = first_or_later path ∙ ap (λ t. begins_with_dot path || t) (later_is path)

-- no segment after the first begins with a dot where no `/.` is
pub later_dotless : (path s : List ℕ) (ss : List (List ℕ)) → parts path ≡ s ∷ ss → ((k : ℕ) → is_slash_dot path k ≡ false) → list_any begins_with_dot ss ≡ false
later_dotless path s ss e none =
    sym (ap (λ l. list_any begins_with_dot (rest l)) e) ∙ later_is path ∙ no_pair 0x2F 0x2E path (λ k l. none k)

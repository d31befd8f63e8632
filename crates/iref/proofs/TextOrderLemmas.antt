-- The order of two texts, by the first bytes that differ, and of two sort keys.
use Rattle.std.proofs.Common.{◌≡◌, ◌≢◌, ℕ, zero, suc, ◌+◌, ◌<◌, [], ◌∷◌, cond, length, get_or, sym, ◌∙◌, ap, arith, inl, inr, refl, nat_eq}
use Rattle.std.proofs.lemmas.Bool.{cases_eq, cases_lt, eq-eqb, ne_eqb}
use Rattle.std.specs.{List.{common_prefix_len}, Cmp.{nat_cmp_is}, Ordering.{nat_cmp, ordering_then}}
use Rattle.std.specs.declared.cmp.Ordering.TheVariants.{Less, Equal, Greater}
use Rattle.iref_grammar.specs.{Keys.{text_order}, Reference.{ReferenceValue}, Rules.{Text}}
use Rattle.iref_grammar.specs.Key.{key_cmp}
use Rattle.iref_canonical.specs.SortKey.{sort_key}
use Rattle.iref_canonical.proofs.SortKeyLemmas.{text_order-sort_key}

module _ (x y : ℕ) (a b : Text) where
  -- a first byte that is the same is passed over
  same_counts : x ≡ y → common_prefix_len nat_eq (x ∷ a) (y ∷ b) ≡ 1 + common_prefix_len nat_eq a b
  same_counts e = ap (λ t. cond t (1 + common_prefix_len nat_eq a b) 0) (eq-eqb x y e)

  same_passes : x ≡ y → text_order (x ∷ a) (y ∷ b) ≡ text_order a b
  same_passes e = ap (λ o. ordering_then o (text_order a b)) (sym (nat_cmp_is x y Equal e))

  -- one that differs decides
  other_ends : x ≢ y → common_prefix_len nat_eq (x ∷ a) (y ∷ b) ≡ 0
  other_ends e = ap (λ t. cond t (1 + common_prefix_len nat_eq a b) 0) (ne_eqb x y e)

  other_decides : x ≢ y → nat_cmp x y ≡ text_order (x ∷ a) (y ∷ b)
  other_decides ne = elim (cases_lt x y) [
    | inl l ↦ let e = nat_cmp_is x y Less l in sym e ∙ ap (λ o. ordering_then o (text_order a b)) e
    | inr l ↦ let e = nat_cmp_is x y Greater (omega arith) in sym e ∙ ap (λ o. ordering_then o (text_order a b)) e
  ]

one_more : (m k : ℕ) → nat_cmp (suc m) (suc k) ≡ nat_cmp m k
one_more m k = elim (cases_lt m k) [
  | inl l ↦ sym (nat_cmp_is (suc m) (suc k) Less (omega arith)) ∙ nat_cmp_is m k Less l
  | inr r ↦ elim (cases_lt k m) [
    | inl l ↦ sym (nat_cmp_is (suc m) (suc k) Greater (omega arith)) ∙ nat_cmp_is m k Greater l
    | inr l ↦ sym (nat_cmp_is (suc m) (suc k) Equal (omega arith)) ∙ nat_cmp_is m k Equal (omega arith)
  ]
]

-- the bytes behind what two texts begin with decide
pub order_at_bytes : (a b : Text) (n : ℕ) → n ≡ common_prefix_len nat_eq a b → n < length a → n < length b → nat_cmp (get_or a n 0) (get_or b n 0) ≡ text_order a b
order_at_bytes [] b n e l m = absurd (omega arith)
order_at_bytes (x ∷ a) [] n e l m = absurd (omega arith)
order_at_bytes (x ∷ a) (y ∷ b) zero e l m = other_decides x y a b (λ s. omega (arith, e, same_counts x y a b s))
order_at_bytes (x ∷ a) (y ∷ b) (suc n) e l m = elim (cases_eq x y) [
  | inl s ↦ order_at_bytes a b n (omega (arith, e, same_counts x y a b s)) (omega arith) (omega arith) ∙ sym (same_passes x y a b s)
  | inr ne ↦ absurd (omega (arith, e, other_ends x y a b ne))
]

-- where one text ends there, the shorter is first
pub order_at_end : (a b : Text) (n : ℕ) → n ≡ common_prefix_len nat_eq a b → (n < length a → n < length b → ⊥) → nat_cmp (length a) (length b) ≡ text_order a b
order_at_end [] [] n e end = refl
order_at_end [] (y ∷ b) n e end = sym (nat_cmp_is 0 (length (y ∷ b)) Less (omega arith))
order_at_end (x ∷ a) [] n e end = sym (nat_cmp_is (length (x ∷ a)) 0 Greater (omega arith))
order_at_end (x ∷ a) (y ∷ b) n e end = elim (cases_eq x y) [
  | inl s ↦
      let count = same_counts x y a b s in
      one_more (length a) (length b) ∙ order_at_end a b (common_prefix_len nat_eq a b) refl (λ l m. end (omega (arith, e, count)) (omega (arith, e, count))) ∙ sym (same_passes x y a b s)
  | inr ne ↦ let ends = other_ends x y a b ne in absurd (end (omega (arith, e, ends)) (omega (arith, e, ends)))
]

-- sort keys are in the order of what they are made of
pub order_of_keys : (a b : ReferenceValue) (s t : Text) → s ≡ sort_key a → t ≡ sort_key b → text_order s t ≡ key_cmp a b
order_of_keys a b s t p q = ap (λ k. text_order k t) p ∙ ap (text_order (sort_key a)) q ∙ text_order-sort_key a b

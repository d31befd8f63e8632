-- The order of what two texts decode to, by the first bytes that are the same and kept.
use Rattle.std.proofs.Common.{◌≡◌, ◌≢◌, ℕ, zero, suc, ◌+◌, ◌<◌, ◌≤◌, ◌⊎◌, List, [], ◌∷◌, length, length-drop, get_or, drop, refl, sym, ◌∙◌, ap, arith, ⊎_elim, inl, inr}
use Rattle.std.proofs.{Math.Seq.{drop-cons}, lemmas.Bool.{cases_lt}, lemmas.Slice.{between_to_end}}
use Rattle.std.specs.{Cmp.{nat_cmp_is}, Ordering.{nat_cmp, ordering_then}, declared.cmp.Ordering.{Ordering}}
use Rattle.std.specs.declared.cmp.Ordering.TheVariants.{Less, Equal, Greater}
use Rattle.percent_encoding.specs.Percent.{percent_decode}
use Rattle.percent_encoding.proofs.PercentLemmas.{percent_decode_not_percent, length-percent_decode}
use Rattle.iref_grammar.specs.Keys.{text_order}
use Rattle.iref_parse.specs.Kept.{IsKeptFront}

-- what is the same in front does not decide
past : (xs ys : List ℕ) (n : ℕ) → n ≤ length xs → n ≤ length ys → ((k : ℕ) → k < n → get_or xs k 0 ≡ get_or ys k 0) → ((k : ℕ) → k < n → get_or xs k 0 ≢ 37)
    → text_order (percent_decode xs) (percent_decode ys) ≡ text_order (percent_decode (drop n xs)) (percent_decode (drop n ys))
past xs ys zero p q same kept = refl
past [] ys (suc n) p q same kept = absurd (omega arith)
past (x ∷ xs) [] (suc n) p q same kept = absurd (omega arith)
past (x ∷ xs) (y ∷ ys) (suc n) p q same kept =
    let e = same 0 (omega arith) in
    let first = percent_decode_not_percent x xs (kept 0 (omega arith)) in
    let second = percent_decode_not_percent y ys (λ h. kept 0 (omega arith) (e ∙ h)) in
    (λ i. text_order (first i) (second i))
    ∙ ap (λ o. ordering_then o (text_order (percent_decode xs) (percent_decode ys))) (sym (nat_cmp_is x y Equal e))
    ∙ past xs ys n (omega arith) (omega arith) (λ k l. same (suc k) (omega arith)) (λ k l. kept (suc k) (omega arith))

-- nothing is less than a byte
nothing_first : (t : List ℕ) → 0 < length t → text_order [] t ≡ Less
nothing_first [] l = absurd (omega arith)
nothing_first (x ∷ xs) l = refl

nothing_last : (t : List ℕ) → 0 < length t → text_order t [] ≡ Greater
nothing_last [] l = absurd (omega arith)
nothing_last (x ∷ xs) l = refl

-- the lengths of two texts, of which one ends after n bytes
shorter_first : (m k n : ℕ) (xs ys : List ℕ) → m ≡ n + length xs → k ≡ n + length ys → (length xs ≡ 0) ⊎ (length ys ≡ 0) → nat_cmp m k ≡ text_order (percent_decode xs) (percent_decode ys)
unfolding percent_decode
shorter_first m k n [] [] p q h = sym (nat_cmp_is m k Equal (omega arith))
shorter_first m k n [] (y ∷ ys) p q h =
    sym (nat_cmp_is m k Less (omega arith)) ∙ sym (nothing_first (percent_decode (y ∷ ys)) (omega (arith, (length-percent_decode (y ∷ ys)).1)))
shorter_first m k n (x ∷ xs) [] p q h =
    sym (nat_cmp_is m k Greater (omega arith)) ∙ sym (nothing_last (percent_decode (x ∷ xs)) (omega (arith, (length-percent_decode (x ∷ xs)).1)))
shorter_first m k n (x ∷ xs) (y ∷ ys) p q h = ⊎_elim (λ e. absurd (omega arith)) (λ e. absurd (omega arith)) h

decided : (x y : ℕ) (o : Ordering) → x ≢ y → ordering_then (nat_cmp x y) o ≡ nat_cmp x y
decided x y o ne =
    ⊎_elim (λ l. let e = nat_cmp_is x y Less l in ap (λ r. ordering_then r o) (sym e) ∙ e)
    (λ l. let e = nat_cmp_is x y Greater (omega arith) in ap (λ r. ordering_then r o) (sym e) ∙ e)
    (cases_lt x y)

module _ (xs ys : List ℕ) (n : ℕ) (h : IsKeptFront xs ys n) where
  pub order_past_front : text_order (percent_decode xs) (percent_decode ys) ≡ text_order (percent_decode (drop n xs)) (percent_decode (drop n ys))
  order_past_front = past xs ys n h.first h.second h.same h.kept

  -- where one text ends, the shorter is first
  pub order_at_end : (n < length xs → n < length ys → ⊥) → nat_cmp (length xs) (length ys) ≡ text_order (percent_decode xs) (percent_decode ys)
  order_at_end end =
      let first = h.first in
      let second = h.second in
      let left = length-drop n xs in
      let other = length-drop n ys in
      shorter_first (length xs) (length ys) n (drop n xs) (drop n ys) (omega arith) (omega arith) (⊎_elim (λ l. inr (omega (arith, end l))) (λ e. inl (omega arith)) (cases_lt n (length xs))) ∙ sym order_past_front

  -- where neither goes on with an escape, the next bytes decide
  pub order_at_bytes : n < length xs → n < length ys → get_or xs n 0 ≢ 37 → get_or ys n 0 ≢ 37 → nat_cmp (get_or xs n 0) (get_or ys n 0) ≡ text_order (percent_decode xs) (percent_decode ys)
  order_at_bytes l m p q =
      let x = get_or xs n 0 in
      let y = get_or ys n 0 in
      let first = ap percent_decode (drop-cons xs n 0 l) ∙ percent_decode_not_percent x (drop (suc n) xs) p in
      let second = ap percent_decode (drop-cons ys n 0 m) ∙ percent_decode_not_percent y (drop (suc n) ys) q in
      sym (decided x y _ (λ e. p (h.ends l m e))) ∙ sym (order_past_front ∙ (λ i. text_order (first i) (second i)))

pub ruleset ordered = (between_to_end, order_past_front, order_at_bytes)

-- Indices of two bytes that stand side by side.
use Rattle.std.proofs.Common.{◌≡◌, ℕ, zero, suc, ◌+◌, ◌-◌, ◌<◌, ◌≤◌, List, [], ◌∷◌, Bool, true, false, not, cond, eqb, length, get_or, get_or-take, get_or-drop, take, drop, length-take-le, length-drop, bit_and, ◌&&◌, refl, sym, ap, ◌∙◌, arith, ⊎_elim, nat_lt}
use Rattle.std.proofs.{lemmas.Bool.{true≢false, or_left, or_right, false_from_ne_true, cases_lt}, lemmas.Bool.Decides.{nat_tests}}
use Rattle.std.specs.List.{list_all}
use Rattle.iref_parse.specs.{Lanes.{HasLanes}, Dots.{has_pair, is_pair}}
use Rattle.iref_parse.proofs.PositionLemmas.{ends, low_end, high_end}
use Rattle.iref_parse.proofs.SeenLemmas.{Seen, Seen-ends, unmarked_from_clear, clear_from_unmarked}

module _ (first second : ℕ) where
  -- a pair after the first byte
  pair_behind : (x : ℕ) (xs : List ℕ) (k : ℕ) → is_pair first second (x ∷ xs) (suc k) ≡ is_pair first second xs k
  pair_behind x xs k =
      let next : suc k + 1 ≡ suc (k + 1) = omega arith in
      ap (λ j. eqb (get_or xs k 0) first && eqb (get_or (x ∷ xs) j 0) second) next

  -- a pair at an index
  pub pair_at : (text : List ℕ) (k : ℕ) → k + 1 < length text → is_pair first second text k ≡ true → has_pair first second text ≡ true
  pair_at [] k l h = absurd (omega arith)
  pair_at (x ∷ []) k l h = absurd (omega arith)
  pair_at (x ∷ y ∷ rest) zero l h = or_left _ _ h
  pair_at (x ∷ y ∷ rest) (suc k) l h = or_right _ _ (pair_at (y ∷ rest) k (omega arith) (sym (pair_behind x (y ∷ rest) k) ∙ h))

  pub no_pair : (text : List ℕ) → ((k : ℕ) → k + 1 < length text → is_pair first second text k ≡ false) → has_pair first second text ≡ false
  no_pair [] none = refl
  no_pair (x ∷ []) none = grind arith
  no_pair (x ∷ y ∷ rest) none =
      let here = none 0 (omega arith) in
      let behind = no_pair (y ∷ rest) (λ k l. sym (pair_behind x (y ∷ rest) k) ∙ none (suc k) (omega arith)) in
      grind arith

  -- the first pair tells whether there is one
  pub near_found : (text : List ℕ) (n : ℕ) → ((k : ℕ) → 0 ≤ k → k < n → k + 1 < length text → is_pair first second text k ≡ false) → (n < length text → (n + 1 < length text) × (is_pair first second text n ≡ true))
      → nat_lt n (length text) ≡ has_pair first second text
  near_found text n none found = ⊎_elim (λ l. let yes = pair_at text n (found l).0 (found l).1 in grind (arith, nat_tests))
      (λ l. let no = no_pair text (λ k m. none k (omega arith) (omega arith) m) in grind (arith, nat_tests)) (cases_lt n (length text))

  -- the mark of a pair at index k
  abbrev pub pairs_at : List ℕ → ℕ → ℕ
  pairs_at text k = cond (is_pair first second text k) 255 0

  pub unmarked_pair : (text : List ℕ) (k : ℕ) → pairs_at text k ≡ 0 → is_pair first second text k ≡ false
  unmarked_pair text k h = grind (arith, nat_tests)

  -- a vector that saw all indices says whether there is a pair
  module _ (text v : List ℕ) (at : ℕ) (near : length text < at + 17) (seen : Seen (pairs_at text) (length text - 1) at v) where
    none_from_clear : list_all (λ x. eqb x 0) v ≡ true → has_pair first second text ≡ false
    none_from_clear clear = no_pair text (λ k l. false_from_ne_true (is_pair first second text k) (λ e.
        let marked = ap {B = ℕ} (λ t. cond t 255 0) e in
        omega (arith, marked, unmarked_from_clear (pairs_at text) (length text - 1) at v (omega arith) seen clear k (omega arith) (omega arith))))

    clear_from_none : has_pair first second text ≡ false → list_all (λ x. eqb x 0) v ≡ true
    clear_from_none none = clear_from_unmarked (pairs_at text) (length text - 1) at v (omega arith) seen (λ k low high.
        ap (λ t. cond t 255 0) (false_from_ne_true (is_pair first second text k) (λ e. true≢false (sym (pair_at text k (omega arith) e) ∙ none))))

    pub pairs_found : (b : Bool) → b ≡ list_all (λ x. eqb x 0) v → not b ≡ has_pair first second text
    pairs_found b e = by b (has_pair first second text) e refl
      where
        by : (b h : Bool) → b ≡ list_all (λ x. eqb x 0) v → has_pair first second text ≡ h → not b ≡ has_pair first second text
        by true h e f = sym (none_from_clear (sym e))
        by false true e f = sym f
        by false false e f = absurd (true≢false (sym (clear_from_none f) ∙ sym e))

  -- the indices before the last byte, counted from the end
  pub pairs_from_end : (text v : List ℕ) → 17 ≤ length text → HasLanes v (λ k. pairs_at text (length text - 17 + k)) → HasLanes v (λ k. pairs_at text (length text - 1 - 16 + k))
  pairs_from_end text v long h = record { long = h.long; each = λ k l. h.each k l ∙ ap (pairs_at text) (omega arith) }

both_marked : (p q : Bool) → bit_and (cond p 255 0) (cond q 255 0) ≡ cond (p && q) 255 0
both_marked p q = grind (arith, nat_tests)

-- the text without its last byte, and without its first: lane by lane, two neighbours
module _ (text : List ℕ) (least : 9 ≤ length text) where
  abbrev pub fronts : List ℕ
  fronts = take (length text - 1) text

  abbrev pub nexts : List ℕ
  nexts = take (length text - 1) (drop 1 text)

  long_fronts : length fronts ≡ length text - 1
  long_fronts = length-take-le (length text - 1) text (omega arith)

  long_nexts : length nexts ≡ length text - 1
  long_nexts = length-take-le (length text - 1) (drop 1 text) (omega (arith, length-drop 1 text))

  front_is : (k : ℕ) → k < length text - 1 → get_or text k 0 ≡ get_or fronts k 0
  front_is k l = sym (get_or-take (length text - 1) text k 0 l)

  next_is : (k : ℕ) → k < length text - 1 → get_or text (k + 1) 0 ≡ get_or nexts k 0
  next_is k l =
      let turned : k + 1 ≡ 1 + k = omega arith in
      ap (λ j. get_or text j 0) turned ∙ sym (get_or-take (length text - 1) (drop 1 text) k 0 l ∙ get_or-drop 1 text k 0)

  -- the ends of at most 16 bytes show all indices
  pub Seen-pairs_of_ends : (first second : ℕ) (v : List ℕ) → length text ≤ 16
      → HasLanes v (λ k. bit_and (cond (eqb (get_or (ends fronts) (0 + k) 0) first) 255 0) (cond (eqb (get_or (ends nexts) (0 + k) 0) second) 255 0)) → Seen (pairs_at first second text) (length text - 1) 0 v
  Seen-pairs_of_ends first second v most marks =
      Seen-ends (pairs_at first second text) (length text - 1) v (omega arith) (omega arith) marks.long
      (λ k l. lane k k (omega arith) (front_is k (omega arith) ∙ low_end fronts (omega (arith, long_fronts)) k l) (next_is k (omega arith) ∙ low_end nexts (omega (arith, long_nexts)) k l))
      (λ k l late.
      lane (k + 16 - (length text - 1)) k (omega arith)
      (front_is k l ∙ high_end fronts (omega (arith, long_fronts)) k (omega (arith, long_fronts)) ∙ ap (λ n. get_or (ends fronts) (k + 16 - n) 0) long_fronts)
      (next_is k l ∙ high_end nexts (omega (arith, long_nexts)) k (omega (arith, long_nexts)) ∙ ap (λ n. get_or (ends nexts) (k + 16 - n) 0) long_nexts))
    where
      lane : (k j : ℕ) → k < 16 → get_or text j 0 ≡ get_or (ends fronts) k 0 → get_or text (j + 1) 0 ≡ get_or (ends nexts) k 0 → get_or v k 0 ≡ pairs_at first second text j
      lane k j l slash dot =
          let here : 0 + k ≡ k = omega arith in
          let front = ap (λ n. get_or (ends fronts) n 0) here ∙ sym slash in
          let next = ap (λ n. get_or (ends nexts) n 0) here ∙ sym dot in
          marks.each k l ∙ (λ i. bit_and (cond (eqb (front i) first) 255 0) (cond (eqb (next i) second) 255 0)) ∙ both_marked _ _

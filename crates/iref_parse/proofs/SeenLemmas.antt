-- What a vector of joined marks says of all positions, of which it saw the first and the last 16.
use Rattle.std.proofs.Common.{◌≡◌, ℕ, ◌+◌, ◌-◌, ◌<◌, ◌≤◌, List, true, eqb, length, get_or, sym, ap, ◌∙◌, arith, bit_or, ⊎_elim}
use Rattle.std.proofs.lemmas.Bool.{eqb-true, eq-eqb, cases_lt}
use Rattle.std.proofs.lemmas.List.Sums.{AllPass-from_list_all, list_all-from_AllPass}
use Rattle.std.proofs.{lemmas.List.Elements.{All-from_get_or}, lemmas.Nat.{le_or_l, le_or_r}}
use Rattle.std.specs.List.{list_all}
use Rattle.iref_parse.specs.Lanes.{HasLanes}

-- no index from i up to j is marked
abbrev pub Unmarked : (ℕ → ℕ) → ℕ → ℕ → Type 0
Unmarked mark i j = (k : ℕ) → i ≤ k → k < j → mark k ≡ 0

abbrev pub IsZero : List ℕ → Type 0
IsZero v = (k : ℕ) → k < 16 → get_or v k 0 ≡ 0

-- of n positions, v shows of the first and of the last 16 whether one is marked
pub record Seen (mark : ℕ → ℕ) (n at : ℕ) (v : List ℕ) : Type 0 where
  pub long : length v ≡ 16
  pub front : IsZero v → Unmarked mark 0 at
  pub back : IsZero v → Unmarked mark (n - 16) n
  pub zero : Unmarked mark 0 n → IsZero v

module _ (mark : ℕ → ℕ) where
  module _ (at : ℕ) (v : List ℕ) (marks : HasLanes v (λ k. mark (at + k))) where
    unmarked_from_zero : IsZero v → Unmarked mark at (at + 16)
    unmarked_from_zero z k low high =
        let same : k ≡ at + (k - at) = omega arith in
        ap mark same ∙ sym (marks.each (k - at) (omega arith)) ∙ z (k - at) (omega arith)

    zero_from_unmarked : Unmarked mark at (at + 16) → IsZero v
    zero_from_unmarked h k l = marks.each k l ∙ h (at + k) (omega arith) (omega arith)

  -- the last 16 alone
  pub Seen-none : (n : ℕ) (v : List ℕ) → 16 ≤ n → HasLanes v (λ k. mark (n - 16 + k)) → Seen mark n 0 v
  Seen-none n v long marks = record {
    long = marks.long;
    front = λ z k low high. absurd (omega arith);
    back = λ z k low high. unmarked_from_zero (n - 16) v marks z k low (omega arith);
    zero = λ h. zero_from_unmarked (n - 16) v marks (λ k low high. h k (omega arith) (omega arith));
  }

  -- the first eight and the last eight, of 8 to 15
  pub Seen-ends : (n : ℕ) (v : List ℕ) → 8 ≤ n → n < 16 → length v ≡ 16 → ((k : ℕ) → k < 8 → get_or v k 0 ≡ mark k) → ((k : ℕ) → k < n → n ≤ k + 8 → get_or v (k + 16 - n) 0 ≡ mark k) → Seen mark n 0 v
  Seen-ends n v least most long low high = record {
    long = long;
    front = λ z k from below. absurd (omega arith);
    back = λ z k from below. ⊎_elim (λ early. sym (low k early) ∙ z k (omega arith)) (λ late. sym (high k below (omega arith)) ∙ z (k + 16 - n) (omega arith)) (cases_lt k 8);
    zero = λ h k l. ⊎_elim (λ early. low k early ∙ h k (omega arith) (omega arith))
        (λ late.
        let lane : k ≡ k + n - 16 + 16 - n = omega arith in
        ap (λ j. get_or v j 0) lane ∙ high (k + n - 16) (omega arith) (omega arith) ∙ h (k + n - 16) (omega arith) (omega arith))
        (cases_lt k 8);
  }

  -- and 16 more
  pub Seen-more : (n at : ℕ) (v more w : List ℕ) → at + 16 ≤ n → Seen mark n at v → HasLanes more (λ k. mark (at + k))
      → HasLanes w (λ k. bit_or (get_or v k 0) (get_or more k 0)) → Seen mark n (at + 16) w
  Seen-more n at v more w room seen marks joined =
      let old : IsZero w → IsZero v = λ z k l. omega (arith, z k l, joined.each k l, le_or_l (get_or v k 0) (get_or more k 0)) in
      let new : IsZero w → IsZero more = λ z k l. omega (arith, z k l, joined.each k l, le_or_r (get_or v k 0) (get_or more k 0)) in
      record {
        long = joined.long;
        front = λ z k low high. ⊎_elim (λ below. seen.front (old z) k low below) (λ from. unmarked_from_zero at more marks (new z) k from high) (cases_lt k at);
        back = λ z. seen.back (old z);
        zero = λ h k l. joined.each k l ∙ (λ i. bit_or (seen.zero h k l i) (zero_from_unmarked at more marks (λ j low high. h j (omega arith) (omega arith)) k l i));
      }

  module _ (n at : ℕ) (v : List ℕ) (near : n < at + 16) (seen : Seen mark n at v) where
    -- once the two parts meet, it shows all
    pub unmarked_from_clear : list_all (λ x. eqb x 0) v ≡ true → Unmarked mark 0 n
    unmarked_from_clear e =
        let size = seen.long in
        let z : IsZero v = λ k l. eqb-true _ 0 (AllPass-from_list_all (λ x. eqb x 0) v e k 0 (omega arith)) in
        λ k low high. ⊎_elim (λ below. seen.front z k low below) (λ from. seen.back z k (omega arith) high) (cases_lt k at)

    pub clear_from_unmarked : Unmarked mark 0 n → list_all (λ x. eqb x 0) v ≡ true
    clear_from_unmarked h =
        let size = seen.long in
        list_all-from_AllPass (λ x. eqb x 0) v (All-from_get_or (λ x. eqb x 0 ≡ true) v 0 (λ k l. eq-eqb _ 0 (seen.zero h k (omega arith))))

-- What the least bytes and the marks of `%` of whole blocks of 16 tell of all bytes before a position.
use Rattle.std.proofs.Common.{◌≡◌, ℕ, ◌+◌, ◌-◌, ◌<◌, List, true, eqb, cond, length, get_or, replicate, refl, sym, ap, ◌∙◌, arith, bit_and, bit_or, ⊎_elim, Fits, w8, min, nat_lt}
use Rattle.std.proofs.lemmas.Bool.{agree_below_at, cases_lt, eqb-true, eq-eqb, lt-ltb, ltb-true}
use Rattle.std.proofs.{lemmas.Nat.{le_or_l, le_or_r}, lemmas.Simd.{get_or-replicate}}
use Rattle.std.specs.List.{list_all}
use Rattle.iref_parse.specs.{Lanes.{HasLanes}, Plain.{is_kept_byte, kept_mark}}
use Rattle.iref_parse.proofs.{SeenLemmas.{Unmarked, IsZero}, UnescapedLemmas.{marks_at, all_allowed}}

-- 0 exactly if x is at least 2, and p is 0
abbrev pub lane_mark : ℕ → ℕ → ℕ
lane_mark x p = bit_or (cond (eqb (bit_and x 254) 0) 255 0) p

none_below_two : (x : ℕ) → x < 256 → eqb (cond (eqb (bit_and x 254) 0) 255 0) 0 ≡ nat_lt 1 x
none_below_two x l = agree_below_at (λ y. eqb (cond (eqb (bit_and y 254) 0) 255 0) 0) (nat_lt 1) 256 x refl l

clear_parts : (x p : ℕ) → x < 256 → lane_mark x p ≡ 0 → (1 < x) × (p ≡ 0)
clear_parts x p l e =
    let low : ℕ = cond (eqb (bit_and x 254) 0) 255 0 in
    let none : low ≡ 0 = omega (arith, e, le_or_l low p) in
    let test : nat_lt 1 x ≡ true = sym (none_below_two x l) ∙ eq-eqb low 0 none in
    (ltb-true 1 x test, omega (arith, e, le_or_r low p))

clear_from_parts : (x p : ℕ) → x < 256 → 1 < x → p ≡ 0 → lane_mark x p ≡ 0
clear_from_parts x p l h e = λ i. bit_or (eqb-true _ 0 (none_below_two x l ∙ lt-ltb 1 x h) i) (e i)

-- each lane of the one is at least 2, and each of the other 0
abbrev pub AreKeptLanes : List ℕ → List ℕ → Type 0
AreKeptLanes least percent = (k : ℕ) → k < 16 → (1 < get_or least k 0) × (get_or percent k 0 ≡ 0)

-- they are so exactly if each byte before a position is kept
pub record KeptTo (bytes : List ℕ) (at : ℕ) (least percent : List ℕ) : Type 0 where
  pub small : (k : ℕ) → k < 16 → get_or least k 0 < 256
  pub front : AreKeptLanes least percent → Unmarked (marks_at kept_mark bytes) 0 at
  pub lanes : Unmarked (marks_at kept_mark bytes) 0 at → AreKeptLanes least percent

pub KeptTo-none : (bytes : List ℕ) → KeptTo bytes 0 (replicate 16 255) (replicate 16 0)
KeptTo-none bytes = record {
  small = λ k l. omega (arith, get_or-replicate {A = ℕ} 16 k 255 0 l);
  front = λ z k low high. absurd (omega arith);
  lanes = λ h k l. (omega (arith, get_or-replicate {A = ℕ} 16 k 255 0 l), get_or-replicate {A = ℕ} 16 k 0 0 l);
}

module _ (bytes : List ℕ) (fit : (k : ℕ) → Fits w8 (get_or bytes k 0)) (at : ℕ) (least percent : List ℕ) (kept : KeptTo bytes at least percent) where
  -- and 16 more
  module _ (block percents least' percent' : List ℕ) (loaded : HasLanes block (λ k. get_or bytes (at + k) 0)) (marked : HasLanes percents (λ k. cond (eqb (get_or block k 0) 37) 255 0))
      (lesser : HasLanes least' (λ k. min (get_or least k 0) (get_or block k 0))) (joined : HasLanes percent' (λ k. bit_or (get_or percent k 0) (get_or percents k 0))) where
    lane_percent : (k : ℕ) → k < 16 → get_or percents k 0 ≡ cond (eqb (get_or bytes (at + k) 0) 37) 255 0
    lane_percent k l = marked.each k l ∙ ap {B = ℕ} (λ b. cond (eqb b 37) 255 0) (loaded.each k l)

    old_lanes : AreKeptLanes least' percent' → AreKeptLanes least percent
    old_lanes z k l = (omega (arith, (z k l).0, lesser.each k l), omega (arith, (z k l).1, joined.each k l, le_or_l (get_or percent k 0) (get_or percents k 0)))

    new_front : AreKeptLanes least' percent' → (k : ℕ) → k < 16 → kept_mark (get_or bytes (at + k) 0) ≡ 0
    new_front z k l = clear_from_parts (get_or bytes (at + k) 0) _ (fit (at + k)).fits (omega (arith, (z k l).0, lesser.each k l, loaded.each k l))
        (sym (lane_percent k l) ∙ omega (arith, (z k l).1, joined.each k l, le_or_r (get_or percent k 0) (get_or percents k 0)))

    new_lanes : Unmarked (marks_at kept_mark bytes) 0 (at + 16) → AreKeptLanes least' percent'
    new_lanes h k l =
        let old = kept.lanes (λ j low high. h j low (omega arith)) k l in
        let new = clear_parts (get_or bytes (at + k) 0) _ (fit (at + k)).fits (h (at + k) (omega arith) (omega arith)) in
        (omega (arith, old.0, new.0, lesser.each k l, loaded.each k l), joined.each k l ∙ (λ i. bit_or (old.1 i) ((lane_percent k l ∙ new.1) i)))

    pub KeptTo-more : KeptTo bytes (at + 16) least' percent'
    KeptTo-more = record {
      small = λ k l. omega (arith, kept.small k l, lesser.each k l);
      front = λ z k low high. ⊎_elim (λ below. kept.front (old_lanes z) k low below)
          (λ from.
          let same : k ≡ at + (k - at) = omega arith in
          ap (marks_at kept_mark bytes) same ∙ new_front z (k - at) (omega arith))
          (cases_lt k at);
      lanes = new_lanes;
    }

  -- a vector of the marks of both says it of all bytes
  pub kept_from_lanes : (v : List ℕ) → at ≡ length bytes → HasLanes v (λ k. lane_mark (get_or least k 0) (get_or percent k 0)) → list_all (λ x. eqb x 0) v ≡ list_all is_kept_byte bytes
  kept_from_lanes v whole marks =
      let here : IsZero v → AreKeptLanes least percent = λ z k l. clear_parts _ _ (kept.small k l) (sym (marks.each k l) ∙ z k l) in
      all_allowed kept_mark is_kept_byte (λ b l. agree_below_at (λ x. eqb (kept_mark x) 0) is_kept_byte 256 b refl l) bytes v fit (length bytes) (omega arith)
      (record {
        long = marks.long;
        front = λ z k low high. kept.front (here z) k low (omega arith);
        back = λ z k low high. kept.front (here z) k (omega arith) (omega arith);
        zero = λ h k l.
            let lane = kept.lanes (λ j low high. h j low (omega arith)) k l in
            marks.each k l ∙ clear_from_parts _ _ (kept.small k l) lane.0 lane.1;
      })

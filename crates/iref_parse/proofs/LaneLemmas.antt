-- What the operations on vectors of 16 bytes hold at each lane.
use Rattle.std.proofs.Common.{◌≡◌, ℕ, ◌+◌, ◌*◌, ◌/◌, ◌<◌, List, [], ◌∷◌, Bool, false, not, cond, eqb, ◌&&◌, length, take, length-take-le, get_or, get_or-take, map, replicate, refl, sym, ap, ◌∙◌, arith, w8, min, nat_lt}
use Rattle.std.proofs.lemmas.Simd.{length-sel_l, get_or-sel_l, length-zip2, get_or-zip2, get_or-replicate, length-swz_l, get_or-swz_l_below, swz_l, SwzOk, SwzOk-from_below, Each1-from_get_or}
use Rattle.std.proofs.lemmas.Bool.Decides.{nat_tests}
use Rattle.std.specs.{List.{list_all}, Simd.Lanes.{zip2, sel_l, mask_l}}
use Rattle.iref_parse.specs.Lanes.{HasLanes}

-- an operator on two vectors
pub HasLanes-zip2 : (f : ℕ → ℕ → ℕ) (a b : List ℕ) → length a ≡ 16 → length b ≡ 16 → HasLanes (zip2 f a b) (λ k. f (get_or a k 0) (get_or b k 0))
HasLanes-zip2 f a b p q = record {
  long = length-zip2 f a b (p ∙ sym q) ∙ p;
  each = λ k l. get_or-zip2 f a b k 0 0 0 (omega arith) (omega arith);
}

-- an operator on a vector and a splat
pub HasLanes-splat : (f : ℕ → ℕ → ℕ) (a : List ℕ) (x : ℕ) → length a ≡ 16 → HasLanes (zip2 f a (replicate 16 x)) (λ k. f (get_or a k 0) x)
HasLanes-splat f a x p =
    let h = HasLanes-zip2 f a (replicate 16 x) p refl in
    record { long = h.long; each = λ k l. h.each k l ∙ ap (f (get_or a k 0)) (get_or-replicate 16 k x 0 l) }

-- a choice of two splats by the comparison with a splat
pub HasLanes-select : (t : ℕ → ℕ → Bool) (a : List ℕ) (x y z : ℕ) → length a ≡ 16
    → HasLanes (sel_l (zip2 t a (replicate 16 x)) (replicate 16 y) (replicate 16 z)) (λ k. cond (t (get_or a k 0) x) y z)
HasLanes-select t a x y z p =
    let long : length (zip2 t a (replicate 16 x)) ≡ 16 = length-zip2 t a (replicate 16 x) p ∙ p in
    record {
      long = length-sel_l _ (replicate 16 y) (replicate 16 z) long long ∙ long;
      each = λ k l.
          get_or-sel_l _ (replicate 16 y) (replicate 16 z) k 0 (omega arith) l l
          ∙ (λ i. cond ((get_or-zip2 t a (replicate 16 x) k 0 0 false (omega arith) l ∙ ap (t (get_or a k 0)) (get_or-replicate 16 k x 0 l)) i) (get_or-replicate 16 k y 0 l i) (get_or-replicate 16 k z 0 l i));
    }

lesser_of : (x y : ℕ) → cond (nat_lt x y) x y ≡ min x y
lesser_of x y = grind (arith, nat_tests)

-- a choice of the lesser of two
pub HasLanes-lesser : (a b : List ℕ) → length a ≡ 16 → length b ≡ 16 → HasLanes (sel_l (zip2 nat_lt a b) a b) (λ k. min (get_or a k 0) (get_or b k 0))
HasLanes-lesser a b p q =
    let test : length (zip2 nat_lt a b) ≡ 16 = length-zip2 nat_lt a b (p ∙ sym q) ∙ p in
    record {
      long = length-sel_l _ a b (test ∙ sym p) (test ∙ sym q) ∙ test;
      each = λ k l.
          get_or-sel_l (zip2 nat_lt a b) a b k 0 (omega arith) (omega arith) (omega arith)
          ∙ ap (λ t. cond t (get_or a k 0) (get_or b k 0)) (get_or-zip2 nat_lt a b k 0 0 false (omega arith) (omega arith)) ∙ lesser_of (get_or a k 0) (get_or b k 0);
    }

module _ (js : List ℕ) (f : ℕ → ℕ) (h : HasLanes js f) (small : (k : ℕ) → k < 16 → f k < 16) where
  -- positions below 16 may be looked up
  pub SwzOk-halves : SwzOk w8 16 16 0 js
  SwzOk-halves =
      let long = h.long in
      SwzOk-from_below w8 16 1 16 0 js refl (omega arith) (Each1-from_get_or (λ j. j < 16) js 0 (λ i l. omega (arith, h.each i (omega arith), small i (omega arith))))

  -- what the look-up gives in a vector that holds the table
  pub HasLanes-look_up : {whole : List ℕ} (table : List ℕ) → HasLanes whole (λ k. get_or table k 0) → HasLanes (swz_l w8 16 whole 0 js) (λ k. get_or table (f k) 0)
  HasLanes-look_up {whole} table same =
      let long = h.long in
      record {
        long = length-swz_l w8 16 whole 0 js ∙ long;
        each = λ k l.
            let e = h.each k l in
            let at : 16 * ((0 + k) / 16) + get_or js k 0 ≡ f k = omega arith in
            get_or-swz_l_below w8 16 whole 0 js k (omega arith) (omega (arith, small k l)) ∙ ap (λ j. get_or whole j 0) at ∙ same.each (f k) (small k l);
      }

pub HasLanes-table : (table : List ℕ) → length table ≡ 16 → HasLanes (take 16 table) (λ k. get_or table k 0)
HasLanes-table table long = record { long = length-take-le 16 table (omega arith); each = λ k l. get_or-take 16 table k 0 l }

no_bit : (b : Bool) (m : ℕ) → eqb (cond (not b) 1 0 + 2 * m) 0 ≡ (b && eqb m 0)
no_bit b m = grind (arith, nat_tests)

-- a mask of the lanes that fail the test is 0 where each passes
pub clear_mask : (p : ℕ → Bool) (v : List ℕ) → eqb (mask_l (map (λ x. not (p x)) v)) 0 ≡ list_all p v
clear_mask p [] = refl
clear_mask p (x ∷ v) = no_bit (p x) (mask_l (map (λ x. not (p x)) v)) ∙ ap (λ t. p x && t) (clear_mask p v)

-- The first lane in which two vectors differ, by the mask of those that do.
use Rattle.std.proofs.Common.{◌≡◌, ◌≢◌, ℕ, ◌%◌, ◌^◌, ◌<◌, ◌≤◌, List, Bool, false, not, cond, eqb, length, get_or, map, sym, ap, ◌∙◌, arith, w8}
use Rattle.std.proofs.lemmas.Simd.{length-zip2, get_or-zip2, leading_from_mask_l, trailing_mask_l, tops_compared, mask_l-mod}
use Rattle.std.proofs.{lemmas.List.{map-id}, lemmas.Bool.{eqb-true, eqb-false, not-true, not-false}}
use Rattle.std.proofs.lemmas.List.Sums.{prefix_len_passes, prefix_len_stops, prefix_len-le-length}
use Rattle.std.specs.{List.{prefix_len}, Simd.Lanes.{zip2, mask_l, top}}
use lib.Count.{count_trailing_zeros}
use Rattle.iref_parse.specs.Lanes.{DifferFirstAt}

-- the lanes that differ
abbrev pub others : List ℕ → List ℕ → List Bool
others a b = zip2 (λ x y. not (eqb x y)) a b

module _ (a b : List ℕ) (p : length a ≡ 16) (q : length b ≡ 16) where
  size : length (others a b) ≡ 16
  size = length-zip2 (λ x y. not (eqb x y)) a b (p ∙ sym q) ∙ p

  differs : (k : ℕ) → k < 16 → get_or (others a b) k false ≡ not (eqb (get_or a k 0) (get_or b k 0))
  differs k l = get_or-zip2 (λ x y. not (eqb x y)) a b k 0 0 false (omega arith) (omega arith)

  by_prefix : (r : ℕ) → r ≡ prefix_len (λ m. not m) (others a b) → DifferFirstAt a b 16 r
  by_prefix r e =
      let long = size in
      let bound : r ≤ 16 = omega (arith, prefix_len-le-length (λ m. not m) (others a b)) in
      record {
        within = bound;
        same = λ k l. eqb-true _ _ (not-false _ (sym (differs k (omega arith)) ∙ not-true _ (prefix_len_passes (λ m. not m) (others a b) k false (omega arith))));
        other = λ l. eqb-false _ _ (not-true _ (sym (differs r l) ∙ ap (λ j. get_or (others a b) j false) e ∙ not-false _ (prefix_len_stops (λ m. not m) (others a b) false (omega arith))));
      }

  -- the mask that the comparison gives
  mask_is : mask_l (map (top 7) (zip2 (λ x y. cond (not (eqb x y)) 255 0) a b)) % 2 ^ 64 ≡ mask_l (others a b)
  mask_is = let long = size in ap (λ ms. mask_l ms % 2 ^ 64) (tops_compared w8 (λ x y. not (eqb x y)) a b) ∙ mask_l-mod (others a b) 64 (omega arith)

  module _ (m : ℕ) (same : m ≡ mask_l (map (top 7) (zip2 (λ x y. cond (not (eqb x y)) 255 0) a b)) % 2 ^ 64) where
    whole : m ≡ mask_l (map (λ t. t) (others a b))
    whole = same ∙ mask_is ∙ sym (ap mask_l (map-id (others a b)))

    pub differ_nowhere : m ≡ 0 → DifferFirstAt a b 16 16
    differ_nowhere e = by_prefix 16 (sym (leading_from_mask_l (λ t. t) (others a b) (sym whole ∙ e) ∙ size))

    pub differ_somewhere : m ≢ 0 → DifferFirstAt a b 16 (count_trailing_zeros 64 m)
    differ_somewhere ne =
        let long = size in
        let is = whole in
        by_prefix (count_trailing_zeros 64 m) (ap (count_trailing_zeros 64) is ∙ trailing_mask_l (λ t. t) 64 (others a b) (omega arith) (omega arith))

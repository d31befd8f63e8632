-- Lists that are compared from the back.
use Rattle.std.proofs.Common.{length-append, ◌≡◌, ℕ, ◌-◌, List, [], ◌∷◌, ◌++◌, length, take, map, arith, true, false, refl, Ordering}
use Rattle.std.proofs.{lemmas.List.{take_min}, lemmas.Bool.Decides.{nat_tests}}
use Rattle.std.proofs.lemmas.Grind.{common_steps}
use Rattle.std.specs.{Ordering.{bool_cmp, is_ne, nat_cmp, ordering_then}, Cmp.Lexicographic.{slice_cmp}}
use Rattle.iref_grammar.specs.{Keys.{text_order}, Rules.{Text}, PathValue.{PathValue}}
use Rattle.percent_encoding.specs.Percent.{percent_decode}
use Rattle.iref_grammar.specs.{NormalList.{normal_segments}, PathKey.{path_key, path_key_cmp}}
use Rattle.iref_path.specs.ItemOrders.{decoded_order}

-- ---- the foremost difference decides

module _ {A : Type 0} (R : A → A → Ordering) where
  -- of lists of the same length the last items decide last
  slice_cmp-last : (xs ys : List A) (x y : A) → length xs ≡ length ys → slice_cmp R (xs ++ x ∷ []) (ys ++ y ∷ []) ≡ ordering_then (slice_cmp R xs ys) (R x y)
  slice_cmp-last [] ys x y h = grind arith
  slice_cmp-last (a ∷ xs) ys x y h = grind (arith, slice_cmp-last xs)

  -- of any lists their lengths decide last
  slice_cmp-cut : (xs ys : List A) → slice_cmp R xs ys ≡ ordering_then (slice_cmp R (take (length ys) xs) (take (length xs) ys)) (nat_cmp (length xs) (length ys))
  slice_cmp-cut [] ys = grind (arith, common_steps)
  slice_cmp-cut (x ∷ xs) [] = grind (arith, nat_tests)
  slice_cmp-cut (x ∷ xs) (y ∷ ys) = grind (arith, nat_tests, slice_cmp-cut xs ys)

  -- lists that are read from the back
  pub order-before : (xs ys us vs : List A) (s t : A) (order : Ordering) → length xs ≡ length ys → xs ≡ us ++ s ∷ [] → ys ≡ vs ++ t ∷ []
      → (length us ≡ length vs) × (ordering_then (slice_cmp R xs ys) order ≡ ordering_then (slice_cmp R us vs) (ordering_then (R s t) order))
  order-before xs ys us vs s t order h e f = grind (arith, length-append, slice_cmp-last)

  -- what is known of two lists when their longer one has been cut
  pub order-cut : (xs ys us vs : List A) (n m : ℕ) → n ≡ length xs → m ≡ length ys → us ≡ take (length xs - (n - m)) xs → vs ≡ take (length ys - (m - n)) ys
      → (us ≡ take (length ys) xs) × (vs ≡ take (length xs) ys) × (ordering_then (slice_cmp R us vs) (nat_cmp n m) ≡ slice_cmp R xs ys)
  order-cut xs ys us vs n m h k e f =
      let left : us ≡ take (length ys) xs = grind (arith, take_min m xs) in
      let right : vs ≡ take (length xs) ys = grind (arith, take_min n ys) in
      (left, right, cc (slice_cmp-cut xs ys))

-- ---- lists that are decoded

abbrev pub decoded : List Text → List Text
decoded = map percent_decode

pub slice_cmp-decoded : (xs ys : List Text) → slice_cmp decoded_order xs ys ≡ slice_cmp text_order (decoded xs) (decoded ys)
slice_cmp-decoded [] ys = grind arith
slice_cmp-decoded (x ∷ xs) [] = refl
slice_cmp-decoded (x ∷ xs) (y ∷ ys) = grind (arith, slice_cmp-decoded xs ys)

pub ruleset of_decoded = (slice_cmp-decoded)

-- ---- keys

module _ (p q : PathValue) (flags : Ordering) (flags_are : flags ≡ bool_cmp p.absolute q.absolute) where
  pub flags_decide : is_ne flags ≡ true → flags ≡ path_key_cmp (path_key p) (path_key q)
  unfolding path_key
  flags_decide h = grind arith

  pub lists_decide : (lists : Ordering) → is_ne flags ≡ false → lists ≡ slice_cmp text_order (decoded (normal_segments p)) (decoded (normal_segments q)) → lists ≡ path_key_cmp (path_key p) (path_key q)
  unfolding path_key
  lists_decide lists h e = grind arith

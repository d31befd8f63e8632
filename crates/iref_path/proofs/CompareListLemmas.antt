-- Two lists that are read from the back, and compared.
use Rattle.std.proofs.Common.{◌≡◌, ℕ, ◌+◌, Bool, true, cond, List, [], ◌∷◌, ◌++◌, length, take, arith, length-append, nat_lt, Ordering, Equal}
use Rattle.std.proofs.{lemmas.Grind.{common_steps}, lemmas.Bool.Decides.{nat_tests}}
use Rattle.std.proofs.{lemmas.List.Sums.{common_prefix_len-le}, lemmas.Map.Text.{is_eq-slice_cmp}}
use Rattle.std.proofs.lemmas.Slice.Eq.{bytes_eq-Decides}
use Rattle.std.specs.{List.{common_prefix_len}, Cmp.Lexicographic.{slice_cmp}, Ordering.{is_eq, ordering_then}}
use Rattle.std.specs.Str.{bytes_eq}
use Rattle.percent_encoding.specs.Percent.{percent_decode}
use Rattle.iref_grammar.specs.{Keys.{text_order}, Rules.{Text}}
use Rattle.iref_path.proofs.OrderLemmas.{order-before}

-- the common prefix where it ends within a list of this number of items, else this one
abbrev pub or_else : ℕ → ℕ → ℕ → ℕ
or_else common size other = cond (nat_lt common size) common other

module _ {A : Type 0} (E : A → A → Bool) where
  -- of lists of the same length the last items decide where all before them are equal
  common-last : (xs ys : List A) (x y : A) → length xs ≡ length ys
      → common_prefix_len E (xs ++ x ∷ []) (ys ++ y ∷ []) ≡ or_else (common_prefix_len E xs ys) (length xs) (cond (E x y) (length xs + 1) (length xs))
  common-last [] ys x y h = grind (arith, common_steps)
  common-last (a ∷ xs) ys x y h = grind (arith, common_steps, common-last xs)

  -- what follows the shorter list does not count
  pub common-cut : (xs ys : List A) → common_prefix_len E xs ys ≡ common_prefix_len E (take (length ys) xs) (take (length xs) ys)
  common-cut [] ys = grind (arith, common_steps)
  common-cut (x ∷ xs) ys = grind (arith, common_steps, common-cut xs)

-- ---- two items

-- one text is its own equal
pub same_text-order : (s t : Text) → bytes_eq s t ≡ true → Equal ≡ text_order (percent_decode s) (percent_decode t)
same_text-order s t h = grind (arith, bytes_eq-Decides, is_eq-slice_cmp (percent_decode s) (percent_decode t))

-- ---- two lists, of which all but these items are read: how many are common where these are, and the order of what is read

module _ (same : Text → Text → Bool) (order_of : Text → Text → Ordering) where
  pub record IsCompared (xs ys us vs : List Text) (count : ℕ) (found : Ordering) : Type 0 where
    pub common : common_prefix_len same xs ys ≡ or_else (common_prefix_len same us vs) (length us) count
    pub order : slice_cmp order_of xs ys ≡ ordering_then (slice_cmp order_of us vs) found

  pub nothing_compared : (xs ys : List Text) (n : ℕ) → length xs ≡ n → IsCompared xs ys xs ys n Equal
  nothing_compared xs ys n h = grind (arith, common_prefix_len-le)

  pub all_compared : (xs ys us vs : List Text) (common : ℕ) (order : Ordering) → IsCompared xs ys us vs common order → us ≡ [] → length us ≡ length vs
      → (common ≡ common_prefix_len same xs ys) × (order ≡ slice_cmp order_of xs ys)
  all_compared xs ys us vs common order h e k = grind (arith, common_steps)

  module _ (decides : (s t : Text) → is_eq (order_of s t) ≡ same s t) (xs ys ss ts us vs : List Text) (s t : Text) (common n : ℕ) (order here : Ordering) (h : IsCompared xs ys ss ts common order)
      (left : length ss ≡ n) (right : length ts ≡ n) (e : ss ≡ us ++ s ∷ []) (f : ts ≡ vs ++ t ∷ []) (is : here ≡ order_of s t) where
    pub one_more : (length us + 1 ≡ n) × (length vs + 1 ≡ n) × IsCompared xs ys us vs (cond (is_eq here) common (length us)) (ordering_then here order)
    one_more = grind (arith, nat_tests, length-append, common-last same us vs s t, order-before order_of ss ts us vs s t order, decides s t)

pub ruleset compared = (nothing_compared, all_compared)

pub ruleset same_texts = (same_text-order)

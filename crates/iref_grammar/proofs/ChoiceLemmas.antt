-- The choice among the candidates: it finds one where there is one, and the shortest.
use Rattle.std.proofs.Common.{arith, ◌≡◌, ℕ, ◌≤◌, Bool, true, false, ◌&&◌, ◌||◌, List, [], ◌∷◌, ◌++◌, length, nat_le, ◌∙◌, ap, Option, Some, None, is_some}
use Rattle.std.proofs.{lemmas.List.Folds.{list_any-append}, lemmas.Bool.{and_from}, lemmas.Bool.Decides.{nat_tests}}
use Rattle.std.proofs.lemmas.Slice.Eq.{bytes_eq-Decides}
use Rattle.std.specs.List.{list_any, list_all}
use Rattle.iref_grammar.specs.Reference.{ReferenceValue, spell}
use Rattle.iref_grammar.specs.Resolution.{resolved}
use Rattle.iref_grammar.specs.Relativized.{is_exact, only_if, shorter, shortest_exact, candidates, relativized}

-- the reference leads to the target's text, and has at most this many bytes
abbrev pub serves : ReferenceValue → ReferenceValue → ℕ → ReferenceValue → Bool
serves target base n r = is_exact target base r && nat_le (length (spell r)) n

pub serves-from : (target base : ReferenceValue) (n : ℕ) (r : ReferenceValue) → resolved base r ≡ target → length (spell r) ≤ n → serves target base n r ≡ true
serves-from target base n r e h =
    let exact : is_exact target base r ≡ true = (bytes_eq-Decides (spell (resolved base r)) (spell target)).1 (ap spell e) in
    let short : nat_le (length (spell r)) n ≡ true = grind (arith, nat_tests) in
    and_from _ _ exact short

-- there is an answer, and it is not longer
abbrev is_at_most : ℕ → Option ReferenceValue → Bool
is_at_most n None = false
is_at_most n (Some r) = nat_le (length (spell r)) n

keeps_least : (n : ℕ) (r : ReferenceValue) (o : Option ReferenceValue) → (nat_le (length (spell r)) n || is_at_most n o) ≡ true → is_at_most n (shorter r o) ≡ true
keeps_least n r o h = grind arith

least_of : (target base : ReferenceValue) (n : ℕ) (list : List ReferenceValue) → list_any (serves target base n) list ≡ true → is_at_most n (shortest_exact target base list) ≡ true
least_of target base n [] h = grind arith
least_of target base n (r ∷ rest) h = grind (arith, keeps_least n r (shortest_exact target base rest), least_of target base n rest)

at_most-is : (n : ℕ) (o : Option ReferenceValue) (r : ReferenceValue) → is_at_most n o ≡ true → o ≡ Some r → length (spell r) ≤ n
at_most-is n o r h e = grind (arith, nat_tests)

at_most-some : (n : ℕ) (o : Option ReferenceValue) → is_at_most n o ≡ true → is_some o ≡ true
at_most-some n o h = grind arith

pub served-some : (target base : ReferenceValue) (n : ℕ) → list_any (serves target base n) (candidates target base) ≡ true → is_some (relativized target base) ≡ true
unfolding relativized
served-some target base n h = at_most-some n (shortest_exact target base (candidates target base)) (least_of target base n (candidates target base) h)

pub served-shortest : (target base r : ReferenceValue) (n : ℕ) → list_any (serves target base n) (candidates target base) ≡ true → relativized target base ≡ Some r → length (spell r) ≤ n
unfolding relativized
served-shortest target base r n h e = at_most-is n (shortest_exact target base (candidates target base)) r (least_of target base n (candidates target base) h) e

-- ---- one of them

pub any_only : (test : ReferenceValue → Bool) (condition : Bool) (r : ReferenceValue) → condition ≡ true → test r ≡ true → list_any test (only_if condition r) ≡ true
any_only test condition r h k = (λ i. list_any test (only_if (h i) r)) ∙ (λ i. k i || false)

pub any_left : (test : ReferenceValue → Bool) (xs ys : List ReferenceValue) → list_any test xs ≡ true → list_any test (xs ++ ys) ≡ true
any_left test xs ys h = list_any-append test xs ys ∙ (λ i. h i || list_any test ys)

pub any_right : (test : ReferenceValue → Bool) (xs ys : List ReferenceValue) → list_any test ys ≡ true → list_any test (xs ++ ys) ≡ true
any_right test xs ys h = list_any-append test xs ys ∙ grind arith

-- what passes a test of all candidates passes it
pub answer_passes : (test : ReferenceValue → Bool) (target base : ReferenceValue) (list : List ReferenceValue) (r : ReferenceValue) → list_all test list ≡ true → shortest_exact target base list ≡ Some r → test r ≡ true
answer_passes test target base [] r h e = grind arith
answer_passes test target base (s ∷ rest) r h e = grind (arith, answer_passes test target base rest r)

-- The names that stay, over a list in two parts.
use Rattle.std.proofs.{Common.{◌≡◌, ℕ, ◌+◌, cond, List, [], ◌∷◌, ◌++◌, refl, ap, arith}, lemmas.Grind.{common_steps}}
use Rattle.iref_grammar.specs.{Rules.{Text}, Texts.{is_empty, all_but_last}}
use Rattle.iref_grammar.specs.NormalList.{is_dot_dot, is_name, counted, open_parents, staying_names}
use Rattle.iref_grammar.specs.NormalReading.{open_before, staying_before}
use Rattle.iref_grammar.proofs.NormalLemmas.{stays_before-is}

pub open_parents-is : (segments : List Text) → open_parents segments ≡ open_before segments 0
open_parents-is [] = refl
open_parents-is (s ∷ rest) = ap (counted (is_dot_dot s) (is_name s)) (open_parents-is rest)

pub staying_names-is : (segments : List Text) → staying_names segments ≡ staying_before segments 0
unfolding staying_names
staying_names-is [] = refl
staying_names-is (s ∷ rest) = grind (arith, common_steps, stays_before-is, open_parents-is, staying_names-is rest)

pub open_before-append : (front back : List Text) (behind : ℕ) → open_before (front ++ back) behind ≡ open_before front (open_before back behind)
open_before-append [] back behind = refl
open_before-append (s ∷ front) back behind = ap (counted (is_dot_dot s) (is_name s)) (open_before-append front back behind)

-- a list read in two parts: the front sees of the back only how many `..` it leaves open
pub staying_before-append : (front back : List Text) (behind : ℕ) → staying_before (front ++ back) behind ≡ staying_before front (open_before back behind) ++ staying_before back behind
staying_before-append [] back behind = refl
staying_before-append (s ∷ front) back behind = grind (arith, open_before-append, staying_before-append front back behind)

-- ---- one more `..` open behind the list takes the last name that stays

-- and stays open itself only where no name stays
pub record TakesLast (x y : List Text) (o q : ℕ) : Type 0 where
  pub count : q ≡ cond (is_empty x) (o + 1) o
  pub names : y ≡ all_but_last x

pub takes_last : (front : List Text) (n : ℕ) → TakesLast (staying_before front n) (staying_before front (n + 1)) (open_before front n) (open_before front (n + 1))
takes_last [] n = record { count = refl; names = refl }
takes_last (s ∷ front) n = grind (arith, common_steps, takes_last front n)

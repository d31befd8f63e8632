-- The names that stay, of lists joined end to end.
use Rattle.std.proofs.Common.{◌≡◌, ℕ, zero, suc, ◌+◌, ◌-◌, ◌≤◌, Bool, true, not, cond, ◌&&◌, List, [], ◌∷◌, ◌++◌, length, take, replicate, refl, sym, ◌∙◌, arith, codes, ◌==◌}
use Rattle.std.proofs.{lemmas.Grind.{common_steps}, lemmas.Bool.{cases_lt}}
use Rattle.std.specs.List.{list_all}
use Rattle.iref_grammar.specs.Rules.{Text}
use Rattle.iref_grammar.specs.NormalList.{is_name, count_parents, staying_names, open_parents}
use Rattle.iref_grammar.proofs.NormalLemmas.{stays_before-is}

-- a list without its last n
abbrev pub without_last : ℕ → List Text → List Text
without_last n list = take (length list - n) list

-- the names of a list, where the first is one and n `..` are open after it
abbrev names_with : Bool → ℕ → Text → List Text → List Text
names_with name n s names = cond (name && (n == 0)) (s ∷ names) names

pub staying-cons : (s : Text) (rest : List Text) → staying_names (s ∷ rest) ≡ names_with (is_name s) (open_parents rest) s (staying_names rest)
unfolding staying_names
staying-cons s rest = λ i. cond (is_name s && stays_before-is rest i) (s ∷ staying_names rest) (staying_names rest)

-- each `..` that is open at the front of ys takes a name of xs, if there is one
pub open-append : (xs ys : List Text) → open_parents (xs ++ ys) ≡ open_parents xs + (open_parents ys - length (staying_names xs))
unfolding staying_names
open-append [] ys = omega arith
open-append (s ∷ rest) ys = grind (arith, common_steps, staying-cons, open-append rest ys)

longer_by_one : (s : Text) (names : List Text) (m : ℕ) → m ≤ length names → take (length (s ∷ names) - m) (s ∷ names) ≡ s ∷ take (length names - m) names
longer_by_one s names m h = let e : suc (length names) - m ≡ suc (length names - m) = omega arith in λ i. take (e i) (s ∷ names)

stay_step : (parent dot : Bool) (k m : ℕ) (s : Text) (names tail : List Text) →
    names_with (not dot && not parent) (k + (m - length names)) s (without_last m names ++ tail) ≡ without_last m (names_with (not dot && not parent) k s names) ++ tail
stay_step parent dot k m s names tail = grind (arith, common_steps, cases_lt, longer_by_one)

-- what stays of xs is what stays of it alone, less one name for each open `..` of ys
pub staying-append : (xs ys : List Text) → staying_names (xs ++ ys) ≡ without_last (open_parents ys) (staying_names xs) ++ staying_names ys
unfolding staying_names
staying-append [] ys = (let e : 0 - open_parents ys ≡ 0 = omega arith in λ i. take (sym e i) [] ++ staying_names ys)
staying-append (s ∷ rest) ys = grind (arith, common_steps, staying-cons, open-append, stay_step, staying-append rest ys)

-- ---- lists of names alone, and of `..` alone

abbrev pub are_names : List Text → Bool
are_names list = list_all is_name list

-- what each passes, the first does and the others do
pub all_first : (test : Text → Bool) (s : Text) (rest : List Text) → list_all test (s ∷ rest) ≡ true → (test s ≡ true) × (list_all test rest ≡ true)
all_first test s rest h = grind arith

pub open-names : (list : List Text) → are_names list ≡ true → open_parents list ≡ 0
open-names [] h = refl
open-names (s ∷ rest) h = grind (arith, open-names rest)

pub staying-names : (list : List Text) → are_names list ≡ true → staying_names list ≡ list
unfolding staying_names
staying-names [] h = refl
staying-names (s ∷ rest) h = grind (arith, common_steps, all_first is_name, staying-cons, open-names, staying-names rest)

-- what stays is a name
pub are_names-staying : (list : List Text) → are_names (staying_names list) ≡ true
unfolding staying_names
are_names-staying [] = refl
are_names-staying (s ∷ rest) = grind (arith, are_names-staying rest)

abbrev pub climbs : ℕ → List Text
climbs n = replicate n (codes "..")

pub open-climbs : (n : ℕ) → open_parents (climbs n) ≡ n
open-climbs zero = refl
open-climbs (suc n) = (λ i. open-climbs n i + 1) ∙ omega arith

pub staying-climbs : (n : ℕ) → staying_names (climbs n) ≡ []
unfolding staying_names
staying-climbs zero = refl
staying-climbs (suc n) = staying-climbs n

-- no more `..` are open than there are
pub open-most : (list : List Text) → open_parents list ≤ count_parents list
open-most [] = omega arith
open-most (s ∷ rest) = grind (arith, common_steps, open-most rest)

pub parents-names : (list : List Text) → are_names list ≡ true → count_parents list ≡ 0
parents-names [] h = refl
parents-names (s ∷ rest) h = grind (arith, parents-names rest)

-- How long the steps are: not longer than what leads to the same list.
use Rattle.std.proofs.Common.{◌≡◌, ℕ, zero, suc, ◌+◌, ◌-◌, ◌*◌, ◌≤◌, Bool, true, false, not, cond, ◌&&◌, List, [], ◌∷◌, ◌++◌, length, drop, refl, sym, ◌∙◌, ap, arith, codes, bytes_eq}
use Rattle.std.proofs.{lemmas.List.{append-nil}, lemmas.List.Sums.{common_prefix_len-le}}
use Rattle.std.specs.List.{list_all}
use Rattle.iref_grammar.specs.{Rules.{Text}, Texts.{is_empty, all_but_last}, PathValue.{is_one_empty}, Contexts.{alone}}
use Rattle.iref_grammar.specs.{Guard.{guarded}, NormalList.{is_dot_dot}, Relativized.{is_climb, shortened}}
use Rattle.iref_grammar.proofs.{JoinedLemmas.{climbs}, WalkLemmas.{climb-is}}
use Rattle.iref_grammar.proofs.WeightLemmas.{weight, weight-append, weight-climbs, weight-drop}
use Rattle.iref_grammar.proofs.StepsLemmas.{common, steps_from, all_but_last-append, last-append, length-front}
use Rattle.iref_grammar.proofs.AddedLemmas.{guarded_in, guard_weighs}

-- what a relative list weighs behind its guard
abbrev pub guarded_weight : List Text → ℕ
guarded_weight list = guarded_in alone false list

pub guarded-climbs : (n : ℕ) (list : List Text) → guarded_weight (climbs (suc n) ++ list) ≡ weight (climbs (suc n) ++ list)
unfolding guarded
guarded-climbs n list = refl

guarded-dot : guarded_weight (codes "." ∷ []) ≡ 2
unfolding guarded
guarded-dot = refl

-- ---- the steps

-- four bytes less for each name that the directory shares with the rest: no `../` up, and not the name again
steps_weigh : (more : List Text) (s : Text) (rest : List Text) → weight (steps_from more (s ∷ rest)) + 4 * common more (all_but_last (s ∷ rest)) ≤ 3 * length more + weight (s ∷ rest)
steps_weigh more s rest =
    let list = s ∷ rest in
    let c = common more (all_but_last list) in
    let within = common_prefix_len-le bytes_eq more (all_but_last list) in
    let size = length-front s rest in
    let up = weight-climbs (length more - c) in
    let down = weight-drop c list (omega arith) in
    let both = weight-append (climbs (length more - c)) (drop c list) in
    omega arith

guarded_steps : (more : List Text) (s : Text) (rest : List Text) (size : ℕ) → 3 * length more + weight (s ∷ rest) ≤ size → guarded_weight (s ∷ rest) ≤ size → guarded_weight (steps_from more (s ∷ rest)) ≤ size
guarded_steps more s rest size h k = by (length more - c) c refl refl
  where
    list : List Text
    list = s ∷ rest

    c : ℕ
    c = common more (all_but_last list)

    weighs : weight (steps_from more list) + 4 * c ≤ 3 * length more + weight list
    weighs = steps_weigh more s rest

    most : guarded_weight (steps_from more list) ≤ weight (steps_from more list) + 2
    most = guard_weighs alone (record { absolute = false; segments = steps_from more list })

    by : (up down : ℕ) → length more - c ≡ up → c ≡ down → guarded_weight (steps_from more list) ≤ size
    by (suc n) down e f = (let same = (λ i. guarded_weight (climbs (e i) ++ drop c list)) ∙ guarded-climbs n (drop c list) ∙ (λ i. weight (climbs (sym e i) ++ drop c list)) in let w = weighs in omega arith)
    by zero zero e f = (let same : guarded_weight (steps_from more list) ≡ guarded_weight list = (λ i. guarded_weight (climbs (e i) ++ drop (f i) list)) in omega (arith, k))
    by zero (suc m) e f = (let w = weighs in let v = most in omega arith)

-- ---- the shortened list

shortened_light : (list : List Text) (size : ℕ) → 2 ≤ size → weight list ≤ size → guarded_weight list ≤ size → guarded_weight (shortened list) ≤ size
shortened_light list size h k g = by (is_climb list) (is_one_empty list) refl refl
  where
    by : (climb one : Bool) → is_climb list ≡ climb → is_one_empty list ≡ one → guarded_weight (cond climb (all_but_last list) (cond one (codes "." ∷ []) list)) ≤ size
    by true one e f =
        let is = climb-is list e in
        let same = ap guarded_weight (is.2 ∙ sym (append-nil (climbs (suc is.0)))) ∙ guarded-climbs is.0 [] in
        let whole = ap weight is.1 ∙ weight-append (climbs (suc is.0)) ([] ∷ []) in
        let part = weight-append (climbs (suc is.0)) [] in
        omega arith
    by false true e f = (let dot = guarded-dot in omega arith)
    by false false e f = g

-- the steps to a list, shortened, behind their guard
pub relative_light : (more : List Text) (s : Text) (rest : List Text) (size : ℕ) → 2 ≤ size → 3 * length more + weight (s ∷ rest) ≤ size → guarded_weight (s ∷ rest) ≤ size
    → guarded_weight (shortened (steps_from more (s ∷ rest))) ≤ size
relative_light more s rest size two h k =
    let weighs = steps_weigh more s rest in
    shortened_light (steps_from more (s ∷ rest)) size two (omega arith) (guarded_steps more s rest size h k)

-- ---- some `..` and an empty segment

all_dot_dot : (n : ℕ) → list_all is_dot_dot (climbs n) ≡ true
all_dot_dot zero = refl
all_dot_dot (suc n) = all_dot_dot n

pub front-climb : (n : ℕ) → all_but_last (climbs n ++ [] ∷ []) ≡ climbs n
front-climb n = all_but_last-append (climbs n) [] [] ∙ append-nil (climbs n)

pub is_climb-climbs : (n : ℕ) → is_climb (climbs (suc n) ++ [] ∷ []) ≡ true
is_climb-climbs n = (λ i. (is_empty (last-append (climbs (suc n)) [] [] i) && not (is_empty (front-climb (suc n) i))) && list_all is_dot_dot (front-climb (suc n) i)) ∙ all_dot_dot (suc n)

pub climb_light : (n size : ℕ) → 2 ≤ size → 3 * n ≤ size → guarded_weight (shortened (climbs n ++ [] ∷ [])) ≤ size
climb_light zero size two h = let dot = guarded-dot in omega arith
climb_light (suc n) size two h =
    let same = (λ i. guarded_weight (cond (is_climb-climbs n i) (all_but_last (climbs (suc n) ++ [] ∷ [])) (cond (is_one_empty (climbs (suc n) ++ [] ∷ [])) (codes "." ∷ []) (climbs (suc n) ++ [] ∷ []))))
    ∙ ap guarded_weight (front-climb (suc n) ∙ sym (append-nil (climbs (suc n)))) ∙ guarded-climbs n [] ∙ ap weight (append-nil (climbs (suc n))) ∙ weight-climbs (suc n) in
    omega (arith, same)

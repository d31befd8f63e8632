-- The stretches of a list, by one count from the back.
use Rattle.std.proofs.Common.{◌≡◌, ℕ, ◌+◌, ◌-◌, ◌≤◌, ◌<◌, max, Bool, not, cond, ◌&&◌, ◌||◌, List, [], ◌∷◌, map, refl, ◌∙◌, ap, arith, inl, inr, nat_le, ◌==◌, ◌≢◌}
use Rattle.std.proofs.{lemmas.Grind.{common_steps}, lemmas.List.Sums.{sum_by-cons}}
use Rattle.std.proofs.lemmas.Bool.Decides.{nat_tests, eqb_tells}
use Rattle.std.specs.List.{list_any}
use Rattle.iref_grammar.specs.{Rules.{Text}, Texts.{beginnings, greatest}}
use Rattle.iref_grammar.specs.NormalList.{is_dot, is_dot_dot, is_name, count_parents, count_names, takes_one_name, stays_before, excess, counted, open_parents}

-- a function of the longer beginnings, as one of the shorter
over_longer : (s : Text) (g h : List Text → ℕ) → ((f : List Text) → g (s ∷ f) ≡ h f) → (fronts : List (List Text)) → greatest (map g (map (λ f. s ∷ f) fronts)) ≡ greatest (map h fronts)
over_longer s g h e [] = refl
over_longer s g h e (f ∷ fronts) = λ i. max (e f i) (over_longer s g h e fronts i)

any_over_longer : (s : Text) (t u : List Text → Bool) → ((f : List Text) → t (s ∷ f) ≡ u f) → (fronts : List (List Text)) → list_any t (map (λ f. s ∷ f) fronts) ≡ list_any u fronts
any_over_longer s t u e [] = refl
any_over_longer s t u e (f ∷ fronts) = λ i. e f i || any_over_longer s t u e fronts i

pub parents-cons : (s : Text) (f : List Text) → count_parents (s ∷ f) ≡ cond (is_dot_dot s) 1 0 + count_parents f
parents-cons s f = sum_by-cons (λ x. cond (is_dot_dot x) 1 0) s f

-- how far the count of `..` above k passes the count of names above m
abbrev surplus : ℕ → ℕ → List Text → ℕ
surplus k m f = k + count_parents f - (m + count_names f)

abbrev levels : ℕ → ℕ → List Text → Bool
levels k m f = (k + count_parents f) == (m + count_names f)

surplus-cons : (k m : ℕ) (s : Text) (f : List Text) → surplus k m (s ∷ f) ≡ surplus (k + cond (is_dot_dot s) 1 0) (m + cond (is_name s) 1 0) f
surplus-cons k m s f = grind (arith, common_steps)

levels-cons : (k m : ℕ) (s : Text) (f : List Text) → levels k m (s ∷ f) ≡ levels (k + cond (is_dot_dot s) 1 0) (m + cond (is_name s) 1 0) f
levels-cons k m s f = grind (arith, common_steps)

surplus_by_kind : (parent dot : Bool) (k m n : ℕ) → max (k - m) (k + cond parent 1 0 + n - (m + cond (not dot && not parent) 1 0)) ≡ k + counted parent (not dot && not parent) n - m
surplus_by_kind parent dot k m n = grind arith

pub greatest_surplus : (k m : ℕ) (segments : List Text) → greatest (map (surplus k m) (beginnings segments)) ≡ k + open_parents segments - m
greatest_surplus k m [] = omega arith
greatest_surplus k m (s ∷ rest) =
    let k' = k + cond (is_dot_dot s) 1 0 in
    let m' = m + cond (is_name s) 1 0 in
    let here : surplus k m [] ≡ k - m = omega arith in
    let later = over_longer s (surplus k m) (surplus k' m') (surplus-cons k m s) (beginnings rest) ∙ greatest_surplus k' m' rest in
    (λ i. max (here i) (later i)) ∙ surplus_by_kind (is_dot_dot s) (is_dot s) k m (open_parents rest)

-- the excess is what the count leaves
pub excess-is : (segments : List Text) → excess segments ≡ open_parents segments
unfolding excess
excess-is segments =
    let same : (f : List Text) → count_parents f - count_names f ≡ surplus 0 0 f = λ f. omega arith in
    let all = greatest_surplus 0 0 segments in
    (λ i. greatest (map (λ f. same f i) (beginnings segments))) ∙ omega (arith, all)

levels_by_kind : (parent dot : Bool) (k m n : ℕ) → k < m → nat_le (m + cond (not dot && not parent) 1 0) (k + cond parent 1 0 + n) ≡ nat_le m (k + counted parent (not dot && not parent) n)
levels_by_kind parent dot k m n h = grind (arith, nat_tests)

level_here : (k m n : ℕ) → k ≡ m → (r : Bool) (parent dot : Bool) → (((k + 0) == (m + 0)) || r) ≡ nat_le m (k + counted parent (not dot && not parent) n)
level_here k m n e r parent dot = grind arith

not_level : (k m : ℕ) → (k ≢ m) → (r : Bool) → (((k + 0) == (m + 0)) || r) ≡ r
not_level k m h r = grind arith

step_within : (parent name : Bool) (k m : ℕ) → k < m → k + cond parent 1 0 ≤ m + cond name 1 0
step_within parent name k m h = grind arith

none_open : (n : ℕ) → not (nat_le 1 (0 + n)) ≡ (n == 0)
none_open n = grind (arith, nat_tests)

pub any_levels : (k m : ℕ) (segments : List Text) → k ≤ m → list_any (levels k m) (beginnings segments) ≡ nat_le m (k + open_parents segments)
any_levels k m [] h = grind (arith, nat_tests)
any_levels k m (s ∷ rest) h = elim (eqb_tells k m) [
  | inl e ↦ level_here k m (open_parents rest) e.1 (list_any (levels k m) (map (λ f. s ∷ f) (beginnings rest))) (is_dot_dot s) (is_dot s)
  | inr e ↦
      let k' = k + cond (is_dot_dot s) 1 0 in
      let m' = m + cond (is_name s) 1 0 in
      let less : k < m = omega (arith, e.1) in
      let within : k' ≤ m' = step_within (is_dot_dot s) (is_name s) k m less in
      not_level k m e.1 (list_any (levels k m) (map (λ f. s ∷ f) (beginnings rest)))
      ∙ any_over_longer s (levels k m) (levels k' m') (levels-cons k m s) (beginnings rest) ∙ any_levels k' m' rest within
      ∙ levels_by_kind (is_dot_dot s) (is_dot s) k m (open_parents rest) less
]

-- a name stays where the count is 0
pub stays_before-is : (rest : List Text) → stays_before rest ≡ (open_parents rest == 0)
stays_before-is rest =
    let same : (f : List Text) → takes_one_name f ≡ levels 0 1 f = λ f. grind (arith, nat_tests) in
    let found = (λ i. list_any (λ f. same f i) (beginnings rest)) ∙ any_levels 0 1 rest (omega arith) in
    ap not found ∙ none_open (open_parents rest)

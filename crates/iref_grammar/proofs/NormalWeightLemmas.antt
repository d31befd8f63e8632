-- The normal list of a path is not longer than the path, but for a `/` after some `..`.
use Rattle.std.proofs.Common.{◌≡◌, ℕ, zero, suc, ◌+◌, ◌-◌, ◌*◌, ◌≤◌, Bool, true, false, cond, ◌&&◌, List, [], ◌∷◌, ◌++◌, length, refl, sym, ◌∙◌, ap, arith, ◌⊎◌, inl, inr, true≢false}
use Rattle.std.proofs.{Math.Bool.{and-false}, Math.Seq.{take-nil}}
use Rattle.iref_grammar.specs.{declared.context.PathContext.{PathContext}, Rules.{Text}, Texts.{all_but_last}}
use Rattle.iref_grammar.specs.{PathValue.{PathValue, spell_path, is_one_empty}, Contexts.{fits}}
use Rattle.iref_grammar.specs.Guard.{guarded}
use Rattle.iref_grammar.specs.NormalList.{staying_names, excess, normal_segments, without_lone_empty, open_parents}
use Rattle.iref_grammar.specs.Relativized.{is_climb}
use Rattle.iref_grammar.proofs.{JoinedLemmas.{climbs}, WalkLemmas.{ended, normal-walk}}
use Rattle.iref_grammar.proofs.WeightLemmas.{path, weight, weight-append, weight-climbs, lighter-path, walk_weighs, adds_nothing, nothing-added, added_weighs}
use Rattle.iref_grammar.proofs.AddedLemmas.{guarded_in, guarded-same, added_light}
use Rattle.iref_grammar.proofs.StepsWeightLemmas.{front-climb, is_climb-climbs}

-- ---- the normal list of a path

pub normal-root : (s : Text) (rest : List Text) → normal_segments (path true (s ∷ rest)) ≡ without_lone_empty (ended (s ∷ rest))
unfolding staying_names
normal-root s rest = normal-walk true [] s rest ∙ (λ i. without_lone_empty (take-nil (0 - open_parents (s ∷ rest)) i ++ ended (s ∷ rest)))

pub normal-rootless : (s : Text) (rest : List Text) → normal_segments (path false (s ∷ rest)) ≡ without_lone_empty (climbs (open_parents (s ∷ rest)) ++ ended (s ∷ rest))
unfolding staying_names
normal-rootless s rest =
    let same : 0 + (open_parents (s ∷ rest) - 0) ≡ open_parents (s ∷ rest) = omega arith in
    normal-walk false [] s rest ∙ (λ i. without_lone_empty (climbs (same i) ++ (take-nil (0 - open_parents (s ∷ rest)) i ++ ended (s ∷ rest))))

pub normal-none : (absolute : Bool) → normal_segments (path absolute []) ≡ []
unfolding normal_segments excess staying_names
normal-none absolute = grind arith

-- ---- behind its guard

guarded-none : (context : PathContext) (absolute : Bool) → guarded_in context absolute [] ≡ 0
unfolding guarded
guarded-none context absolute = grind arith

-- a list without a lone empty segment
without_lone_light : (context : PathContext) (absolute : Bool) (s : Text) (rest : List Text) → fits context (path absolute (s ∷ rest)) ≡ true → guarded_in context absolute (without_lone_empty (ended (s ∷ rest))) ≤ weight (s ∷ rest)
without_lone_light context absolute s rest fit = by (adds_nothing (s ∷ rest)) (is_one_empty (ended (s ∷ rest))) refl refl
  where
    none : guarded_in context absolute [] ≡ 0
    none = guarded-none context absolute

    by : (nothing one : Bool) → adds_nothing (s ∷ rest) ≡ nothing → is_one_empty (ended (s ∷ rest)) ≡ one → guarded_in context absolute (cond one [] (ended (s ∷ rest))) ≤ weight (s ∷ rest)
    by nothing true e f = (let w = none in omega arith)
    by true false e f = absurd (true≢false (ap is_one_empty (sym (nothing-added (s ∷ rest) e)) ∙ f))
    by false false e f = added_light context absolute s rest fit e ((λ i. absolute && f i) ∙ and-false absolute)

-- `..` needs no guard
climbs_fit : (context : PathContext) (s : Text) (rest : List Text) (n : ℕ) (list : List Text) → fits context (path false (s ∷ rest)) ≡ true → fits context (path false (climbs (suc n) ++ list)) ≡ true
climbs_fit context s rest n list h = grind arith

-- a lighter list, or some `..` and an empty segment, without which it is lighter
abbrev pub IsLight : PathContext → Bool → List Text → List Text → Type 0
IsLight context absolute list own = (guarded_in context absolute list ≤ weight own) ⊎ ((is_climb list ≡ true) × (weight (all_but_last list) ≤ weight own))

climbed_light : (context : PathContext) (s : Text) (rest : List Text) (n : ℕ) → fits context (path false (s ∷ rest)) ≡ true → open_parents (s ∷ rest) ≡ suc n → IsLight context false (climbs (suc n) ++ ended (s ∷ rest)) (s ∷ rest)
climbed_light context s rest n fit opened = by (adds_nothing (s ∷ rest)) refl
  where
    size : weight (climbs (suc n)) ≡ 3 * suc n
    size = weight-climbs (suc n)

    by : (nothing : Bool) → adds_nothing (s ∷ rest) ≡ nothing → IsLight context false (climbs (suc n) ++ ended (s ∷ rest)) (s ∷ rest)
    by true e =
        let list : climbs (suc n) ++ ended (s ∷ rest) ≡ climbs (suc n) ++ [] ∷ [] = ap (λ l. climbs (suc n) ++ l) (nothing-added (s ∷ rest) e) in
        let front : weight (all_but_last (climbs (suc n) ++ ended (s ∷ rest))) ≡ weight (climbs (suc n)) = ap (λ l. weight (all_but_last l)) list ∙ ap weight (front-climb (suc n)) in
        let weighs = walk_weighs (s ∷ rest) in
        let all = size in
        inr (ap is_climb list ∙ is_climb-climbs n, omega arith)
    by false e =
        let same = ap (λ (p : PathValue). weight p.segments) (guarded-same context (path false (climbs (suc n) ++ ended (s ∷ rest))) (climbs_fit context s rest n (ended (s ∷ rest)) fit)) in
        let joined = weight-append (climbs (suc n)) (ended (s ∷ rest)) in
        let weighs = added_weighs (s ∷ rest) e in
        let all = size in
        inl (omega arith)

rootless_light : (context : PathContext) (s : Text) (rest : List Text) (n : ℕ) → fits context (path false (s ∷ rest)) ≡ true → open_parents (s ∷ rest) ≡ n → IsLight context false (without_lone_empty (climbs n ++ ended (s ∷ rest))) (s ∷ rest)
rootless_light context s rest zero fit opened = inl (without_lone_light context false s rest fit)
rootless_light context s rest (suc n) fit opened = climbed_light context s rest n fit opened

pub normal_light-none : (context : PathContext) (absolute : Bool) → guarded_in context absolute (normal_segments (path absolute [])) ≤ 0
normal_light-none context absolute = let none = ap (guarded_in context absolute) (normal-none absolute) ∙ guarded-none context absolute in omega arith

-- the normal list of a path that may stand there
pub normal_light : (context : PathContext) (absolute : Bool) (segments : List Text) → fits context (path absolute segments) ≡ true → IsLight context absolute (normal_segments (path absolute segments)) segments
normal_light context absolute [] fit = inl (normal_light-none context absolute)
normal_light context true (s ∷ rest) fit = rw (normal-root s rest) (inl (without_lone_light context true s rest fit))
normal_light context false (s ∷ rest) fit = rw (normal-rootless s rest) (rootless_light context s rest (open_parents (s ∷ rest)) fit refl)

-- with a root it is never longer
pub normal_light-root : (context : PathContext) (segments : List Text) → fits context (path true segments) ≡ true → guarded_in context true (normal_segments (path true segments)) ≤ weight segments
normal_light-root context [] fit = normal_light-none context true
normal_light-root context (s ∷ rest) fit = rw (normal-root s rest) (without_lone_light context true s rest fit)

-- ---- as texts

-- where the guard keeps the flag, the text of a lighter list is not longer
pub not_longer : (context : PathContext) (absolute : Bool) (list own : List Text) → (guarded context (path absolute list)).absolute ≡ absolute → guarded_in context absolute list ≤ weight own
    → length (spell_path (guarded context (path absolute list))) ≤ length (spell_path (path absolute own))
not_longer context absolute list own flag h =
    let p = guarded context (path absolute list) in
    let lighter = lighter-path absolute p.segments own h in
    let text : length (spell_path p) ≡ length (spell_path (path absolute p.segments)) = (λ i. length (spell_path (path (flag i) p.segments))) in
    omega (arith, lighter)

-- Behind its guard, what a walk adds is not longer than the walk.
use Rattle.std.proofs.Common.{◌≡◌, ℕ, ◌+◌, ◌*◌, ◌≤◌, Bool, true, false, ◌&&◌, List, [], ◌∷◌, length, refl, sym, ◌∙◌, ap, arith, ◌⊎◌, inl, inr, true≢false}
use Rattle.std.proofs.lemmas.Bool.{and_parts}
use Rattle.iref_grammar.specs.{declared.context.PathContext.{PathContext}, Rules.{Text}}
use Rattle.iref_grammar.specs.{PathValue.{PathValue, is_one_empty}, Contexts.{follows_authority, reads_as_path, fits}}
use Rattle.iref_grammar.specs.{NormalList.{open_parents}, Guard.{guarded}}
use Rattle.iref_grammar.proofs.{WalkLemmas.{ended}, WeightLemmas.{path, weight, adds_nothing, added_weighs, first_added}}

-- ---- the guard

-- what a list weighs behind its guard in a context
abbrev pub guarded_in : PathContext → Bool → List Text → ℕ
guarded_in context absolute list = weight (guarded context (path absolute list)).segments

-- the guard weighs two
pub guard_weighs : (context : PathContext) (p : PathValue) → weight (guarded context p).segments ≤ weight p.segments + 2
unfolding guarded
guard_weighs context p = grind arith

-- a path that may stand in the context gets none
pub guarded-same : (context : PathContext) (p : PathValue) → fits context p ≡ true → guarded context p ≡ p
unfolding guarded
guarded-same context p h = grind arith

-- an empty segment may begin a path only where any list may follow
empty_first : (context : PathContext) (absolute : Bool) (rest list : List Text) → (absolute && is_one_empty list) ≡ false → reads_as_path context (path absolute ([] ∷ rest)) ≡ true → reads_as_path context (path absolute list) ≡ true
empty_first context absolute rest list lone h = grind arith

-- whether a path may stand there, its first segment decides
same_first : (context : PathContext) (absolute : Bool) (s : Text) (rest more : List Text) → (absolute && is_one_empty (s ∷ more)) ≡ false → reads_as_path context (path absolute (s ∷ rest)) ≡ true → reads_as_path context (path absolute (s ∷ more)) ≡ true
same_first context absolute s rest more lone h = grind arith

follows_too : (context : PathContext) (absolute : Bool) (s : Text) (rest list : List Text) → follows_authority context (path absolute (s ∷ rest)) ≡ true → follows_authority context (path absolute list) ≡ true
follows_too context absolute s rest list h = grind arith

-- a guard is needed only where the walk has another segment first
guard_paid : (context : PathContext) (absolute : Bool) (s : Text) (rest list : List Text) → (absolute && is_one_empty list) ≡ false → reads_as_path context (path absolute (s ∷ rest)) ≡ true → reads_as_path context (path absolute list) ≡ false
    → ((more : List Text) × (list ≡ s ∷ more)) ⊎ (weight list + (length s + 1) ≤ weight (s ∷ rest)) → weight list + 2 ≤ weight (s ∷ rest)
guard_paid context absolute s rest list lone reads unread (inl same) =
    absurd (true≢false (sym (same_first context absolute s rest same.0 ((λ i. absolute && is_one_empty (sym same.1 i)) ∙ lone) reads) ∙ (λ i. reads_as_path context (path absolute (sym same.1 i))) ∙ unread))
guard_paid context absolute [] rest list lone reads unread (inr more) = absurd (true≢false (sym (empty_first context absolute rest list lone reads) ∙ unread))
guard_paid context absolute (c ∷ s) rest list lone reads unread (inr more) = omega arith

pub added_light : (context : PathContext) (absolute : Bool) (s : Text) (rest : List Text) → fits context (path absolute (s ∷ rest)) ≡ true → adds_nothing (s ∷ rest) ≡ false → (absolute && is_one_empty (ended (s ∷ rest))) ≡ false
    → guarded_in context absolute (ended (s ∷ rest)) ≤ weight (s ∷ rest)
added_light context absolute s rest fit some lone = by (reads_as_path context (path absolute list)) refl
  where
    list : List Text
    list = ended (s ∷ rest)

    both : (follows_authority context (path absolute (s ∷ rest)) ≡ true) × (reads_as_path context (path absolute (s ∷ rest)) ≡ true)
    both = and_parts (follows_authority context (path absolute (s ∷ rest))) (reads_as_path context (path absolute (s ∷ rest))) fit

    weighs : weight list + 3 * open_parents (s ∷ rest) ≤ weight (s ∷ rest)
    weighs = added_weighs (s ∷ rest) some

    by : (reads : Bool) → reads_as_path context (path absolute list) ≡ reads → guarded_in context absolute list ≤ weight (s ∷ rest)
    by true e = (let same = ap (λ (p : PathValue). weight p.segments) (guarded-same context (path absolute list) (λ i. follows_too context absolute s rest list both.0 i && e i)) in let much = weighs in omega arith)
    by false e = (let most = guard_weighs context (path absolute list) in let paid = guard_paid context absolute s rest list lone both.1 e (first_added s rest some) in omega arith)

-- Normal paths where they stand: a guard hides nothing, so to normalize again changes nothing.
use Rattle.std.proofs.Common.{arith, ◌≡◌, Bool, true, false, cond, List, [], ◌∷◌, ◌++◌, refl, sym, ◌∙◌, ap, codes}
use Rattle.iref_grammar.specs.{declared.context.PathContext.{PathContext}, Rules.{Text}, PathValue.{PathValue}}
use Rattle.iref_grammar.specs.Contexts.{alone, follows_authority}
use Rattle.iref_grammar.specs.Guard.{guarded, made_absolute, dot_where_needed, with_dot}
use Rattle.iref_grammar.specs.NormalList.{staying_names, excess, ends_in_dots, closed, without_lone_empty, normal_segments, normal}
use Rattle.iref_grammar.specs.{PathSteps.{normalized}, PathKey.{path_key}}
use Rattle.iref_grammar.proofs.{NormalLemmas.{excess-is}, JoinedLemmas.{climbs}, SettledLemmas.{normal_again}}

-- ---- the guard

dot_harmless : (absolute : Bool) (segments : List Text) → let p : PathValue = record { absolute = absolute; segments = segments } in normal_segments (with_dot p) ≡ normal_segments p
unfolding normal_segments excess staying_names
dot_harmless true [] = refl
dot_harmless false [] = refl
dot_harmless true (s ∷ rest) = refl
dot_harmless false (s ∷ rest) =
    let same : excess (codes "." ∷ s ∷ rest) ≡ excess (s ∷ rest) = excess-is (codes "." ∷ s ∷ rest) ∙ sym (excess-is (s ∷ rest)) in
    λ i. let kept = climbs (same i) ++ staying_names (s ∷ rest) in without_lone_empty (cond (ends_in_dots (s ∷ rest)) (closed kept) kept)

pub normal-with_dot : (p : PathValue) → normal (with_dot p) ≡ normal p
normal-with_dot p = λ i. record { absolute = p.absolute; segments = dot_harmless p.absolute p.segments i }

normal-dot_where_needed : (context : PathContext) (p : PathValue) → normal (dot_where_needed context p) ≡ normal p
normal-dot_where_needed context p = grind (arith, normal-with_dot)

made_absolute-same : (context : PathContext) (p : PathValue) → follows_authority context p ≡ true → made_absolute context p ≡ p
made_absolute-same context p h = grind arith

-- a guard changes no normal path
pub normal-guarded : (context : PathContext) (p : PathValue) → follows_authority context p ≡ true → normal (guarded context p) ≡ normal p
unfolding guarded
normal-guarded context p h = normal-dot_where_needed context (made_absolute context p) ∙ ap normal (made_absolute-same context p h)

-- ---- normalized paths

follows-normal : (context : PathContext) (p : PathValue) → follows_authority context p ≡ true → follows_authority context (normal p) ≡ true
unfolding normal_segments excess staying_names
follows-normal context p h = grind arith

-- the normal path of a normalized path is its normal path
pub normal-normalized : (context : PathContext) (p : PathValue) → follows_authority context p ≡ true → normal (normalized context p) ≡ normal p
normal-normalized context p h = normal-guarded context (normal p) (follows-normal context p h) ∙ normal_again p

pub normalized-normalized : (context : PathContext) (p : PathValue) → follows_authority context p ≡ true → normalized context (normalized context p) ≡ normalized context p
normalized-normalized context p h = ap (guarded context) (normal-normalized context p h)

-- a normalized path is equal to the path
pub path_key-normalized : (context : PathContext) (p : PathValue) → follows_authority context p ≡ true → path_key (normalized context p) ≡ path_key p
unfolding path_key
path_key-normalized context p h = grind (arith, normal-normalized)

pub path_key-normalized_alone : (p : PathValue) → path_key (normalized alone p) ≡ path_key p
path_key-normalized_alone p = path_key-normalized alone p refl

-- Resolution commutes with the mapping.
use Rattle.std.proofs.Common.{arith, ◌≡◌, Bool, not, ◌&&◌, List, [], ◌∷◌, map, refl, sym, ◌∙◌, ap, codes, option_map, if◌then◌else◌}
use Rattle.std.proofs.{lemmas.Grind.{common_steps}, lemmas.List.{map-append}}
use Rattle.std.specs.Option.{option_or}
use Rattle.iref_grammar.specs.{declared.context.PathContext.{PathContext}, Rules.{Text}, Texts.{all_but_last}}
use Rattle.iref_grammar.specs.{PathValue.{PathValue}, Reference.{ReferenceValue}}
use Rattle.iref_grammar.specs.{Guard.{with_dot, made_absolute, dot_where_needed, guarded}, NormalList.{normal}}
use Rattle.iref_grammar.specs.ComponentSteps.{guarded_reference}
use Rattle.iref_grammar.specs.Resolution.{merged, is_no_path, target_path, target, resolved}
use Rattle.iref_grammar.specs.Mapping.{mapped, mapped_path, mapped_reference}
use Rattle.iref_grammar.proofs.MappedLemmas.{mapped-ascii}
use Rattle.iref_grammar.proofs.MappedMarkLemmas.{is_empty-map, is_some-map, reads_as_path-mapped, context_of-mapped}
use Rattle.iref_grammar.proofs.MappedNormalLemmas.{normal_segments-map}

-- a function of a choice
pub at_if : {A B : Type 0} (f : A → B) (b : Bool) (x y : A) → (if b then f x else f y) ≡ f (if b then x else y)
at_if f b x y = grind arith

-- ---- paths

pub normal-mapped : (p : PathValue) → normal (mapped_path p) ≡ mapped_path (normal p)
normal-mapped p = λ i. record { absolute = p.absolute; segments = normal_segments-map p i }

with_dot-mapped : (p : PathValue) → with_dot (mapped_path p) ≡ mapped_path (with_dot p)
with_dot-mapped p = λ i. record { absolute = p.absolute; segments = sym (mapped-ascii (codes ".") refl) i ∷ map mapped p.segments }

made_absolute-mapped : (context : PathContext) (p : PathValue) → made_absolute context (mapped_path p) ≡ mapped_path (made_absolute context p)
made_absolute-mapped context p = grind arith

dot_where_needed-mapped : (context : PathContext) (p : PathValue) → dot_where_needed context (mapped_path p) ≡ mapped_path (dot_where_needed context p)
dot_where_needed-mapped context p = grind (arith, common_steps, reads_as_path-mapped, with_dot-mapped)

pub guarded-mapped : (context : PathContext) (p : PathValue) → guarded context (mapped_path p) ≡ mapped_path (guarded context p)
unfolding guarded
guarded-mapped context p = ap (dot_where_needed context) (made_absolute-mapped context p) ∙ dot_where_needed-mapped context (made_absolute context p)

pub all_but_last-map : (ss : List Text) → all_but_last (map mapped ss) ≡ map mapped (all_but_last ss)
all_but_last-map [] = refl
all_but_last-map (s ∷ ss) = grind (arith, common_steps, all_but_last-map ss)

-- ---- references

pub guarded_reference-mapped : (r : ReferenceValue) → guarded_reference (mapped_reference r) ≡ mapped_reference (guarded_reference r)
guarded_reference-mapped r = grind (arith, common_steps, context_of-mapped, guarded-mapped)

module _ (base : ReferenceValue) where
  merged-mapped : (p : PathValue) → merged (mapped_reference base) (mapped_path p) ≡ mapped_path (merged base p)
  merged-mapped p = grind (arith, common_steps, is_some-map, is_empty-map, all_but_last-map, map-append)

  is_no_path-mapped : (p : PathValue) → is_no_path (mapped_path p) ≡ is_no_path p
  is_no_path-mapped p = λ i. not p.absolute && is_empty-map p.segments i

  target_path-mapped : (p : PathValue) → target_path (mapped_reference base) (mapped_path p) ≡ mapped_path (target_path base p)
  target_path-mapped p = grind (arith, common_steps, is_no_path-mapped, merged-mapped, at_if, normal-mapped)

  query-mapped : (r : ReferenceValue) → (if is_no_path (mapped_path r.path) then option_or (option_map mapped r.query) (option_map mapped base.query) else option_map mapped r.query)
      ≡ option_map mapped (if is_no_path r.path then option_or r.query base.query else r.query)
  query-mapped r = grind arith

  target-mapped : (r : ReferenceValue) → target (mapped_reference base) (mapped_reference r) ≡ mapped_reference (target base r)
  target-mapped r = grind (arith, common_steps, is_some-map, normal-mapped, target_path-mapped, query-mapped)

  pub resolved-mapped : (r : ReferenceValue) → resolved (mapped_reference base) (mapped_reference r) ≡ mapped_reference (resolved base r)
  unfolding resolved
  resolved-mapped r = ap guarded_reference (target-mapped r) ∙ guarded_reference-mapped (target base r)

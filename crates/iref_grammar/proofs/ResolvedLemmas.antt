-- What a readable reference resolves to under a readable base is readable.
use Rattle.std.proofs.{Common.{arith, ◌≡◌, true, is_some}, lemmas.Grind.{common_steps}}
use Rattle.std.specs.List.{list_all}
use Rattle.iref_grammar.specs.{Characters.{CharTests}, Tests.{is_segment}, Reference.{ReferenceValue, is_readable}}
use Rattle.iref_grammar.specs.{NormalList.{normal}, Resolution.{merged, target_path, target, resolved}}
use Rattle.iref_grammar.proofs.{StepSegmentLemmas.{normal-in}, LeadingLemmas.{all_last}, NormalGrammarLemmas.{takes_dots}}
use Rattle.iref_grammar.proofs.ReferenceStepLemmas.{HasComponents, readable_components, guarded_reference-readable}

module _ (set : CharTests) (base r : ReferenceValue) (own_base : HasComponents set base) (own : HasComponents set r) where
  normal-components : list_all (is_segment set) (normal r.path).segments ≡ true
  normal-components = normal-in (is_segment set) (takes_dots set) r.path own.segments

  merged-components : list_all (is_segment set) (merged base r.path).segments ≡ true
  merged-components = grind (arith, common_steps, is_some, all_last, takes_dots)

  path-components : list_all (is_segment set) (target_path base r.path).segments ≡ true
  path-components = grind (arith, common_steps, normal-components, normal-in, takes_dots, merged-components)

  target-components : HasComponents set (target base r)
  target-components = grind (arith, common_steps, is_some, normal-components, path-components)

pub resolved-readable : (set : CharTests) (base r : ReferenceValue) → is_readable set base ≡ true → is_readable set r ≡ true → is_readable set (resolved base r) ≡ true
unfolding resolved
resolved-readable set base r readable_base readable = grind (arith, common_steps, guarded_reference-readable, target-components, readable_components)

use Rattle.std.proofs.{Common.{ap, length, sym, subst, ◌∙◌}, lemmas.List.{append-nil}}
use Rattle.std.specs.List.{splice}
use Rattle.iref_grammar.specs.{PathValue.{read_path, spell_path}, Reference.{read_reference}}
use Rattle.iref_grammar.specs.ComponentSteps.{with_path, with_new_normal_path}
use Rattle.iref_reference_text.specs.{PathRanges.{RemovesDots}, ComponentLengths.{context_by}}
use Rattle.iref_reference_text.proofs.{LengthLemmas.{context-lengths}, EditLemmas.{after_ok, normal_path_set}}
use Rattle.iref_reference_text.proofs.PathRangeLemmas.{normal_in_place, removes_dots}
use Rattle.iref_reference_text.proofs.reference_text.ReferenceText.set_and_normalize_path.Goals as goal

pub step-requires-clause-leaves : goal.step-requires-clause-leaves
unfolding with_path
step-requires-clause-leaves g c =
    let set = g.C.CharSet.tests in
    let old = read_reference c.args.self.now in
    let path = c.args.path.now in
    let range = c.path_range.result in
    let put = c.as_str-normal.ensures.value ∙ c.in_ok-normal.ensures.text
    ∙ ap spell_path (normal_in_place path old c.context-context.result c.is_absolute_after-absolute.result (c.context-context.ensures ∙ ap context_by c.lengths-old.ensures.lengths ∙ context-lengths old) c.is_absolute_after-absolute.ensures) in
    let spelled = ap (splice c.args.self.now range.start range.end) (append-nil _ ∙ append-nil _ ∙ put) ∙ c.path_range.ensures.replaced (with_new_normal_path (read_path path) old).path in
    let step = normal_path_set set g.met.C.CharSet.above_ascii (g.R.Rule.test set) g.R.HeldRule.allows_scheme (g.met.R.HeldRule.by_scheme set) old
    c.lengths-old.ensures.readable c.lengths-old.ensures.allowed _ path c.requires spelled in
    record { in_rule = step.leaves.in_rule; lengths = (λ i. record (c.lengths-old.ensures.lengths i) { path = length (put i) }) ∙ step.leaves.lengths }

pub returns : goal.returns
unfolding with_path
returns g c =
    let set = g.C.CharSet.tests in
    let old = read_reference c.args.self.now in
    let path = c.args.path.now in
    let range = c.path_range.result in
    let put = c.as_str-normal.ensures.value ∙ c.in_ok-normal.ensures.text
    ∙ ap spell_path (normal_in_place path old c.context-context.result c.is_absolute_after-absolute.result (c.context-context.ensures ∙ ap context_by c.lengths-old.ensures.lengths ∙ context-lengths old) c.is_absolute_after-absolute.ensures) in
    let spelled = ap (splice c.args.self.now range.start range.end) (append-nil _ ∙ append-nil _ ∙ put) ∙ c.path_range.ensures.replaced (with_new_normal_path (read_path path) old).path in
    let step = normal_path_set set g.met.C.CharSet.above_ascii (g.R.Rule.test set) g.R.HeldRule.allows_scheme (g.met.R.HeldRule.by_scheme set) old
    c.lengths-old.ensures.readable c.lengths-old.ensures.allowed _ path c.requires spelled in
    let dots = removes_dots set g.met.C.CharSet.above_ascii path old c.requires c.lengths-old.ensures.readable in
    record {
      text = after_ok c.step.result (λ done. done ∙ spelled) c.step.ensures.ok;
      value = after_ok c.step.result (λ done. ap read_reference done ∙ step.value) c.step.ensures.ok;
      rewritten = after_ok c.step.result (λ done. subst (RemovesDots (with_path (read_path path) old)) (sym (ap read_reference done ∙ step.value)) dots) c.step.ensures.ok;
      err = c.step.ensures.err;
    }

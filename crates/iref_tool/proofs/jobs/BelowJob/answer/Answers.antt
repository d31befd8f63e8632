use Rattle.std.proofs.{Common.{rules, arith, ◌≡◌, true, false, sym, ◌∙◌, append-nil}, lemmas.Grind.{common_steps}}
use Rattle.iref.specs.{SortKey.{sort_key}, SortPrefix.{sort_prefix}}
use Rattle.iref_reference.specs.References.{key_of_reference, reference_text, reference_value}
use Rattle.iref_tool.proofs.JobLemmas.{below_line}
use Rattle.iref_tool.proofs.jobs.BelowJob.answer.Goals as goal

pub returns-in_ok-push_line-clause-outcome : goal.returns-in_ok-push_line-clause-outcome
returns-in_ok-push_line-clause-outcome c =
    let key : c.deref.result.now ≡ sort_key (key_of_reference c.in_ok-reference.reference) = c.deref.ensures.value ∙ search rules in
    let prefix : c.as_slice.result.now ≡ sort_prefix (key_of_reference c.args.self.now.above) = search rules in
    below_line c.args.line.now (reference_text c.in_ok-reference.reference) _ _ (reference_value c.args.self.now.above) true c.args.out.now.items _ c.in_ok-reference.ensures.1 c.in_ok-reference.ensures.0
    key prefix (sym c.if-starts_with.true ∙ c.starts_with.ensures.value) (grind (arith, common_steps, c.in_ok-push_line.ensures.ok))

pub returns-else-starts_with-clause-outcome : goal.returns-else-starts_with-clause-outcome
returns-else-starts_with-clause-outcome c =
    let key : c.deref.result.now ≡ sort_key (key_of_reference c.in_ok-reference.reference) = c.deref.ensures.value ∙ search rules in
    let prefix : c.as_slice.result.now ≡ sort_prefix (key_of_reference c.args.self.now.above) = search rules in
    below_line c.args.line.now (reference_text c.in_ok-reference.reference) _ _ (reference_value c.args.self.now.above) false c.args.out.now.items _ c.in_ok-reference.ensures.1 c.in_ok-reference.ensures.0
    key prefix (sym c.if-starts_with.false ∙ c.starts_with.ensures.value) (sym (append-nil _))

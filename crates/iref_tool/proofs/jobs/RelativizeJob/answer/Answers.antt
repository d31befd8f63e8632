use Rattle.std.proofs.Common.{rules, ◌≡◌, ◌++◌, Some}
use Rattle.iref.specs.{Reference.{read_reference}, Relativized.{relativized}}
use Rattle.iref_reference.specs.References.{reference_buf_text, reference_text, reference_value}
use Rattle.iref_tool.specs.Jobs.{answer_line}
use Rattle.iref_tool.proofs.JobLemmas.{relativized_line}
use Rattle.iref_tool.proofs.jobs.RelativizeJob.answer.Goals as goal

pub returns-clause-outcome : goal.returns-clause-outcome
returns-clause-outcome c =
    let job = c.args.self.now in
    let found : Some (read_reference (reference_buf_text c.in-Some.reference)) ≡ relativized (reference_value c.in_ok-target.target) (reference_value job.0) = search rules in
    let put : c.push.new.out.items ≡ c.args.out.now.items ++ answer_line job.1.0 c.args.line.now (reference_buf_text c.in-Some.reference) = search rules in
    relativized_line c.args.line.now (reference_text c.in_ok-target.target) (reference_buf_text c.in-Some.reference) job.1.0 (reference_value job.0) c.args.out.now.items _ c.in_ok-target.ensures.1 c.in_ok-target.ensures.0 found put

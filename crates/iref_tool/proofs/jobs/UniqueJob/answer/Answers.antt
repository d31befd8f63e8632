use Rattle.iref_reference.specs.References.{reference_text}
use Rattle.iref_tool.proofs.JobLemmas.{sees_line}
use Rattle.iref_tool.proofs.jobs.UniqueJob.answer.Goals as goal

pub returns-in_ok-or-3-clause-next : goal.returns-in_ok-or-3-clause-next
returns-in_ok-or-3-clause-next c = sees_line c.args.self.now.seen c.insert.new.self c.args.line.now (reference_text c.in_ok-reference.field-0) _ c.in_ok-reference.ensures.0 c.in_ok-key.ensures c.in-Ok.ensures.updates

pub returns-else-is_new-clause-next : goal.returns-else-is_new-clause-next
returns-else-is_new-clause-next c = sees_line c.args.self.now.seen c.insert.new.self c.args.line.now (reference_text c.in_ok-reference.field-0) _ c.in_ok-reference.ensures.0 c.in_ok-key.ensures c.in-Ok.ensures.updates

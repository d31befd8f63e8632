use Rattle.std.proofs.Common.{rules, ap, ◌∙◌}
use Rattle.std.proofs.KnownBytes.{Appends-nil}
use Rattle.iref.specs.References.{reference_text}
use Rattle.iref_tool.proofs.JobRunLemmas.{lines_written, on_ok, one_more_line}
use Rattle.iref_tool.proofs.run.put_lines.Goals as goal

pub loop-line-init : goal.loop-line-init
loop-line-init g c = Appends-nil _

pub loop-line-preserved : goal.loop-line-preserved
loop-line-preserved g c =
    one_more_line reference_text c.args.lines.now c.loop-line.line-index c.line-item.result c.as_bytes.result.now (search rules) (c.as_bytes.ensures ∙ ap (λ r. reference_text r) c.line-item.is)
    _ _ _ _ c.loop-line.invariant c.in_ok-put.ensures.ok c.in_ok-put-2.ensures.ok

pub returns-clause-ok : goal.returns-clause-ok
returns-clause-ok g c =
    on_ok c.flush.result
    (lines_written reference_text c.args.lines.now c.loop-line.line-index (search rules) _ _ _ c.loop-line.invariant c.flush.ensures.same)

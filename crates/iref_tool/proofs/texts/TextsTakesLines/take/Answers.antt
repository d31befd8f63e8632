use Rattle.std.proofs.Common.{[], ◌∷◌, Some}
use Rattle.iref_tool.specs.JobRunLaws.{DoesJob-both}
use Rattle.iref_tool.proofs.JobRunLemmas.{job_flushed}
use Rattle.iref_tool.proofs.texts.TextsTakesLines.take.Goals as goal

pub returns-in_ok-flush-clause-line : goal.returns-in_ok-flush-clause-line
returns-in_ok-flush-clause-line g c =
    DoesJob-both g.J.Job.outcome g.J.Job.goes_on g.W.Write.contents _ _ _ (Some c.args.line.now ∷ []) [] c.in_ok-answer.ensures.done
    (job_flushed c.in_ok-flush.ensures.job c.in_ok-flush.ensures.status c.in_ok-flush.ensures.place c.in_ok-flush.ensures.settled c.in_ok-flush.ensures.written)

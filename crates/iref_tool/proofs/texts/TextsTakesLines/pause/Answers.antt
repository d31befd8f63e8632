use Rattle.iref_tool.proofs.JobRunLemmas.{job_flushed}
use Rattle.iref_tool.proofs.texts.TextsTakesLines.pause.Goals as goal

pub returns-clause-no_line : goal.returns-clause-no_line
returns-clause-no_line g c = job_flushed c.in_ok-flush.ensures.job c.in_ok-flush.ensures.status c.in_ok-flush.ensures.place c.in_ok-flush.ensures.settled c.in_ok-flush.ensures.written

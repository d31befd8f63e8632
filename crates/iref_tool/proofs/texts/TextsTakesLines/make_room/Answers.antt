use Rattle.std.proofs.Common.{refl}
use Rattle.iref_tool.proofs.JobRunLemmas.{job_kept}
use Rattle.iref_tool.proofs.texts.TextsTakesLines.make_room.Goals as goal

pub returns-clause-no_line : goal.returns-clause-no_line
returns-clause-no_line g c = job_kept refl refl (refl, refl, refl) refl refl

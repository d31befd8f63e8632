use Rattle.iref_batch.proofs.LineLawLemmas.{answered_equally}
use Rattle.iref_batch.proofs.line_laws.uri_lines_are_answered_equally.Goals as goal

pub returns : goal.returns
returns g c = answered_equally g.S.CharSet.tests g.met.S.CharSet.above_ascii

use Rattle.iref_batch.proofs.LineLawLemmas.{expand_compact}
use Rattle.iref_batch.proofs.line_laws.expand_undoes_compact.Goals as goal

pub returns : goal.returns
returns c = expand_compact

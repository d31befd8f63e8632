use Rattle.iref_grammar.proofs.PathLemmas.{path_reading}
use Rattle.iref_grammar.proofs.path_laws.path_reading.Goals as goal

pub returns : goal.returns
returns c = path_reading

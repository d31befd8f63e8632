use Rattle.iref_grammar.proofs.PathTestLemmas.{is_path-segments}
use Rattle.iref_grammar.proofs.path_laws.path_segments_tested.Goals as goal

pub returns : goal.returns
returns g c = is_path-segments g.S.CharSet.tests g.met.S.CharSet.above_ascii

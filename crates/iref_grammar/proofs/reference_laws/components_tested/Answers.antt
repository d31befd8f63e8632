use Rattle.iref_grammar.proofs.ComponentLemmas.{Decides-AreComponents}
use Rattle.iref_grammar.proofs.reference_laws.components_tested.Goals as goal

pub returns : goal.returns
returns g c = Decides-AreComponents g.S.CharSet.tests g.met.S.CharSet.above_ascii

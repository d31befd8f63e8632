use Rattle.iref_grammar.proofs.MappedReferenceLemmas.{AreAlike-mapped, are_alike-mapped}
use Rattle.iref_grammar.proofs.mapping_laws.mapping_keeps_equality.Goals as goal

pub returns : goal.returns
returns g c = record {
  fact = AreAlike-mapped g.S.CharSet.tests g.met.S.CharSet.above_ascii;
  test = are_alike-mapped g.S.CharSet.tests g.met.S.CharSet.above_ascii;
}

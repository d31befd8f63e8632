use Rattle.iref_grammar.proofs.{MappedRuleLemmas.{readable_mapped}, MappedSpellingLemmas.{spell-mapped}}
use Rattle.iref_grammar.proofs.MappedReferenceLemmas.{read_reference-mapped}
use Rattle.iref_grammar.proofs.mapping_laws.mapping_maps_each_component.Goals as goal

pub returns : goal.returns
returns g c = record {
  spelled = spell-mapped;
  readable = readable_mapped g.S.CharSet.tests g.met.S.CharSet.above_ascii;
  read = read_reference-mapped g.S.CharSet.tests g.met.S.CharSet.above_ascii;
}

use Rattle.iref_grammar.proofs.AsciiReferenceLemmas.{Decides-uri_reference, Decides-uri}
use Rattle.iref_grammar.proofs.mapping_laws.iris_of_ascii_are_uris.Goals as goal

pub returns : goal.returns
returns g c = record {
  reference = Decides-uri_reference g.S.CharSet.tests g.met.S.CharSet.above_ascii;
  full = Decides-uri g.S.CharSet.tests g.met.S.CharSet.above_ascii;
}

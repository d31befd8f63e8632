use Rattle.iref_grammar.proofs.MappedReferenceLemmas.{reference_is_uri_reference, iri_is_uri}
use Rattle.iref_grammar.proofs.mapping_laws.mapped_iris_are_uris.Goals as goal

pub returns : goal.returns
returns g c = record {
  reference = reference_is_uri_reference g.S.CharSet.tests g.met.S.CharSet.above_ascii;
  full = iri_is_uri g.S.CharSet.tests g.met.S.CharSet.above_ascii;
}

use Rattle.iref_grammar.proofs.AsciiReferenceLemmas.{stays_if_uri_reference}
use Rattle.iref_grammar.proofs.mapping_laws.mapping_keeps_uris.Goals as goal

pub returns : goal.returns
returns g c = stays_if_uri_reference g.S.CharSet.tests g.met.S.CharSet.above_ascii

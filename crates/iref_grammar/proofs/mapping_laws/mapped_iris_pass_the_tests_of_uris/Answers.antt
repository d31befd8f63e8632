use Rattle.iref_grammar.proofs.AsciiReferenceLemmas.{is_reference-mapped, is_uri-mapped, is_reference-ascii, is_uri-ascii, read_reference-tested}
use Rattle.iref_grammar.proofs.mapping_laws.mapped_iris_pass_the_tests_of_uris.Goals as goal

pub returns : goal.returns
returns g c = record {
  reference = is_reference-mapped g.S.CharSet.tests g.met.S.CharSet.above_ascii;
  full = is_uri-mapped g.S.CharSet.tests g.met.S.CharSet.above_ascii;
  ascii_reference = is_reference-ascii g.S.CharSet.tests g.met.S.CharSet.above_ascii;
  ascii_full = is_uri-ascii g.S.CharSet.tests g.met.S.CharSet.above_ascii;
  value = read_reference-tested g.S.CharSet.tests g.met.S.CharSet.above_ascii;
}

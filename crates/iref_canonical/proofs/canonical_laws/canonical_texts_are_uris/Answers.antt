use Rattle.iref_canonical.proofs.CanonicalTextLemmas.{text_is_reference, text_is_uri, is_reference-canonical, is_uri-canonical, text_read}
use Rattle.iref_canonical.proofs.canonical_laws.canonical_texts_are_uris.Goals as goal

pub returns : goal.returns
returns g c = record {
  reference = text_is_reference g.S.CharSet.tests g.met.S.CharSet.above_ascii;
  full = text_is_uri g.S.CharSet.tests g.met.S.CharSet.above_ascii;
  reference_tested = is_reference-canonical g.S.CharSet.tests g.met.S.CharSet.above_ascii;
  full_tested = is_uri-canonical g.S.CharSet.tests g.met.S.CharSet.above_ascii;
  read = text_read g.S.CharSet.tests g.met.S.CharSet.above_ascii;
}

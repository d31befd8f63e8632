use Rattle.iref_canonical.proofs.CanonicalKeyLemmas.{scheme-canonical}
use Rattle.iref_canonical.proofs.CanonicalTextLemmas.{canonical-readable, text_ascii, canonical_text-read}
use Rattle.iref_canonical.proofs.canonical_laws.canonical_is_readable.Goals as goal

pub returns : goal.returns
returns g c = record {
  readable = canonical-readable g.S.CharSet.tests g.met.S.CharSet.above_ascii;
  scheme = scheme-canonical;
  ascii = text_ascii g.S.CharSet.tests g.met.S.CharSet.above_ascii;
  read = canonical_text-read g.S.CharSet.tests g.met.S.CharSet.above_ascii;
}

use Rattle.iref_canonical.proofs.CanonicalTextLemmas.{same_texts}
use Rattle.iref_canonical.proofs.canonical_laws.canonical_texts_are_the_same_where_keys_are.Goals as goal

pub returns : goal.returns
returns g c = same_texts g.S.CharSet.tests g.T.CharSet.tests g.met.S.CharSet.above_ascii g.met.T.CharSet.above_ascii

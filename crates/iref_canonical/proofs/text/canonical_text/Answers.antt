use Rattle.std.proofs.Common.{sym, subst, ◌∙◌, IsUtf8}
use Rattle.iref_canonical.proofs.CanonicalTextLemmas.{text_utf8}
use Rattle.iref_canonical.proofs.text.canonical_text.Goals as goal

pub from_utf8_unchecked-requires : goal.from_utf8_unchecked-requires
from_utf8_unchecked-requires g c =
    subst IsUtf8 (sym (c.in_ok-bytes.ensures ∙ c.new.ensures.text)) (text_utf8 g.C.CharSet.tests g.met.C.CharSet.above_ascii _ c.requires)

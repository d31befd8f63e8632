use Rattle.std.proofs.{Common.{◌≡◌, cond, IsUtf8, sym, subst, ap, ◌∙◌, bytes_eq}, lemmas.Str.{IsUtf8-string_bytes}}
use Rattle.std.specs.String.{string_bytes}
use Rattle.iref_splice.proofs.Seams.{left_is_text, one_is_text}
use Rattle.iref_parse.specs.ReferenceSlices.{value_of}
use Rattle.iref_canonical.specs.SpelledReferences.{measured_spelling}
use Rattle.iref_canonical.proofs.CanonicalTextLemmas.{text_utf8}
use Rattle.iref_canonical.proofs.text.write_canonical_text.Goals as goal

pub from_utf8_unchecked-requires : goal.from_utf8_unchecked-requires
from_utf8_unchecked-requires g c =
    let old = c.args.over.now in
    let same : c.into_bytes-bytes.result.items ≡ string_bytes old = ap (λ v. v.items) c.into_bytes-bytes.ensures.value ∙ ap string_bytes c.replace.ensures.value in
    let before = subst IsUtf8 (sym same) (IsUtf8-string_bytes old) in
    let made = subst IsUtf8 (sym c.new.ensures.text) (text_utf8 g.C.CharSet.tests g.met.C.CharSet.above_ascii (value_of c.args.slices) c.requires) in
    let is = bytes_eq c.as_bytes.result.now (measured_spelling c.new.result) in
    left_is_text c.write_unless-written.result c.into_bytes-bytes.result.items c.write_unless-written.new.bytes.items
    (cond is c.into_bytes-bytes.result.items (measured_spelling c.new.result)) c.write_unless-written.ensures.ok c.write_unless-written.ensures.err before (one_is_text is c.into_bytes-bytes.result.items (measured_spelling c.new.result) before made)

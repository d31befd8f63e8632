use Rattle.std.proofs.{Common.{◌≡◌, IsUtf8, rules, sym, subst, ap, ◌∙◌}, lemmas.Str.{IsUtf8-string_bytes}}
use Rattle.std.specs.String.{string_bytes}
use Rattle.iref_splice.specs.Changes.{IsWithin, changed}
use Rattle.iref_splice.proofs.Seams.{changed_is_text, left_is_text}
use Rattle.iref_splice.proofs.text.replace.Goals as goal

pub from_utf8_unchecked-requires : goal.from_utf8_unchecked-requires
from_utf8_unchecked-requires c =
    let text = c.args.text.now in
    let change = c.args.change in
    let same : c.into_bytes-bytes.result.items ≡ string_bytes text = ap (λ v. v.items) c.into_bytes-bytes.ensures.value ∙ ap string_bytes c.replace.ensures.value in
    let old = subst IsUtf8 (sym same) (IsUtf8-string_bytes text) in
    let within = subst (λ bytes. IsWithin bytes change.within) (sym same) c.requires in
    left_is_text c.replace-replaced.result c.into_bytes-bytes.result.items c.replace-replaced.new.bytes.items (changed c.into_bytes-bytes.result.items change) c.replace-replaced.ensures.ok c.replace-replaced.ensures.err old
    (changed_is_text _ change within old (search rules) (search rules) (search rules))

use Rattle.std.proofs.{Common.{◌≡◌, length, get_or, arith, sym, ap, ◌∙◌}, lemmas.Str.{lead_after_ascii}}
use Rattle.iref_parse.proofs.cut.strip_mark.Goals as goal

pub range_from-requires : goal.range_from-requires
range_from-requires c h =
    let text = c.args.text.now in
    let first : get_or text 0 0 ≡ c.args.mark = ap (λ t. get_or t 0 0) (sym c.as_bytes.ensures.value) ∙ c.if-first-mark.true in
    (omega (arith, c.in-len1-up.len_at_least, ap length c.as_bytes.ensures.value), lead_after_ascii text 0 c.utf8.text (omega (arith, first, c.requires)))

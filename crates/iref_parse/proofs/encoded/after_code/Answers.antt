use Rattle.std.proofs.{Common.{◌≡◌, true, ap, sym, ◌∙◌}, lemmas.Bool.{or_right}}
use Rattle.iref_parse.specs.{Encoded.{is_plain_char}, Plain.{is_plain_byte}}
use Rattle.iref_parse.proofs.EncodedTextLemmas.{wide_step}
use Rattle.iref_parse.proofs.encoded.after_code.Goals as goal

pub returns-then-is_extra : goal.returns-then-is_extra
returns-then-is_extra g c =
    let set = g.C.CharSet.tests in
    let code = c.args.code in
    let value = (c.in_ok-from_u32.ensures).value in
    let extra : set.extra code ≡ true = ap set.extra (sym value.1) ∙ sym c.is_extra.ensures ∙ c.if-is_extra.true in
    wide_step (is_plain_char set) code c.args.text.now c.args.rest.now c.requires value.0 (or_right (is_plain_byte code) (set.extra code) extra)

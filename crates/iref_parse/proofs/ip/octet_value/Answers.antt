use Rattle.std.proofs.{Common.{◌∙◌, sym, lit<, arith}, lemmas.Grind.{common_steps}, lemmas.Str.Pattern.{starts_char}}
use Rattle.iref_parse.proofs.DigitLemmas.{octet_value-plus, octet_value-zero, octet_value-parsed}
use Rattle.iref_parse.proofs.ip.octet_value.Goals.{then-starts_with-via-then-starts_with, then-starts_with-via-else-starts_with+then-has_leading_zero}
use Rattle.iref_parse.proofs.ip.octet_value.Goals as goal

pub returns-then-starts_with : goal.returns-then-starts_with
returns-then-starts_with c = elim c.then-starts_with.branch [
  | then-starts_with-via-then-starts_with w ↦ sym (octet_value-plus c.args.text.now ((starts_char 43 c.args.text.now c.starts_with.result c.starts_with.ensures.cases (lit< tt) (lit< tt)).0 w.if-starts_with.true))
  | then-starts_with-via-else-starts_with+then-has_leading_zero w ↦ sym (octet_value-zero c.args.text.now (sym w.has_leading_zero.ensures ∙ w.if-has_leading_zero.true))
]

pub returns : goal.returns
returns c = grind (arith, common_steps, starts_char, octet_value-parsed)

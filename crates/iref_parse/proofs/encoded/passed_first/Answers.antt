use Rattle.std.proofs.{Common.{◌<◌, arith, drop, sym, subst}, lemmas.List.Sums.{prefix_len-le-length}}
use Rattle.std.specs.List.{prefix_len}
use Rattle.iref_parse.specs.{Plain.{is_plain_byte, is_common_byte}, Encoded.{StepsTo, is_plain_char}}
use Rattle.iref_parse.proofs.{CommonLemmas.{common_step}, EncodedTextLemmas.{front_step}}
use Rattle.iref_parse.proofs.PlainTextLemmas.{plain_stands_for_itself}
use Rattle.iref_parse.proofs.encoded.passed_first.Goals as goal

pub returns-then-passes_common-clause-within : goal.returns-then-passes_common-clause-within
returns-then-passes_common-clause-within g c = omega (arith, prefix_len-le-length is_common_byte c.args.text.now, c.common_first.ensures)

pub returns-then-passes_common-clause-step : goal.returns-then-passes_common-clause-step
returns-then-passes_common-clause-step g c = λ some.
    let set = g.C.CharSet.tests in
    let text = c.args.text.now in
    let known = c.passes_common.ensures c.if-passes_common.true in
    let first = c.common_first.ensures in
    let any : 0 < prefix_len is_common_byte text = omega (arith, first, some) in
    subst (λ n. StepsTo (is_plain_char set) text (drop n text)) (sym first) (common_step set known.1 text (c.requires known.0) any)

pub returns-else-passes_common-clause-within : goal.returns-else-passes_common-clause-within
returns-else-passes_common-clause-within g c = omega (arith, prefix_len-le-length is_plain_byte c.args.text.now, c.plain_first.ensures)

pub returns-else-passes_common-clause-step : goal.returns-else-passes_common-clause-step
returns-else-passes_common-clause-step g c = λ some.
    let set = g.C.CharSet.tests in
    let text = c.args.text.now in
    let first = c.plain_first.ensures in
    let any : 0 < prefix_len is_plain_byte text = omega (arith, first, some) in
    subst (λ n. StepsTo (is_plain_char set) text (drop n text)) (sym first) (front_step (is_plain_char set) is_plain_byte (plain_stands_for_itself set) text any)

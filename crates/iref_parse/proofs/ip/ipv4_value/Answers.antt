use Rattle.std.proofs.Common.{◌∙◌, ap, sym, Some}
use Rattle.iref_parse.proofs.OctetLemmas.{after_none, after_one, after_two, after_three-refused, after_three}
use Rattle.iref_parse.proofs.ip.ipv4_value.Goals as goal

pub returns-in_err-first : goal.returns-in_err-first
returns-in_err-first c = c.from_residual.ensures ∙ sym (after_none c.args.text.now c.in_err-first.ensures)

pub returns-in_err-second : goal.returns-in_err-second
returns-in_err-second c = c.from_residual-in_err-second.ensures ∙ sym (after_one c.args.text.now c.in_ok-first.rest.now c.in_ok-first.first c.in_ok-first.ensures c.in_err-second.ensures)

pub returns-in_err-third : goal.returns-in_err-third
returns-in_err-third c =
    c.from_residual-in_err-third.ensures
    ∙ sym (after_two c.args.text.now c.in_ok-first.rest.now c.in_ok-second.rest.now c.in_ok-first.first c.in_ok-second.second c.in_ok-first.ensures c.in_ok-second.ensures c.in_err-third.ensures)

pub returns-in_err-fourth : goal.returns-in_err-fourth
returns-in_err-fourth c =
    c.from_residual-in_err-fourth.ensures
    ∙ sym (after_three-refused c.args.text.now c.in_ok-first.rest.now c.in_ok-second.rest.now c.in_ok-third.rest.now c.in_ok-first.first c.in_ok-second.second c.in_ok-third.third c.in_ok-first.ensures c.in_ok-second.ensures c.in_ok-third.ensures
    (sym c.octet_value.ensures ∙ c.in_err-fourth.was))

pub returns : goal.returns
returns c =
    ap (λ n. Some n) c.from_be_bytes.ensures
    ∙ sym (after_three c.args.text.now c.in_ok-first.rest.now c.in_ok-second.rest.now c.in_ok-third.rest.now c.in_ok-first.first c.in_ok-second.second c.in_ok-third.third c.in_ok-first.ensures c.in_ok-second.ensures c.in_ok-third.ensures
    c.in_ok-fourth.fourth (sym c.octet_value.ensures ∙ c.in_ok-fourth.was))

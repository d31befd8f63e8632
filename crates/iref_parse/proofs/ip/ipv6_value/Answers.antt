use Rattle.std.proofs.Common.{◌∙◌, sym}
use Rattle.iref_parse.proofs.DoubleColonLemmas.{start_refused, end_refused}
use Rattle.iref_parse.proofs.ip.ipv6_value.Goals as goal

pub returns-in_err-start_groups-in-Some : goal.returns-in_err-start_groups-in-Some
returns-in_err-start_groups-in-Some c =
    let at = c.in-Some.ensures.cases in
    c.from_residual.ensures ∙ sym (start_refused c.args.text.now c.in-Some.before.now c.in-Some.after.now at.0 at.1 at.2 at.3 at.4 c.in_err-start_groups-in-Some.ensures)

pub returns-in_err-end_groups-in-Some : goal.returns-in_err-end_groups-in-Some
returns-in_err-end_groups-in-Some c =
    let at = c.in-Some.ensures.cases in
    c.from_residual-in_err-end_groups-in-Some.ensures ∙ sym (end_refused c.args.text.now c.in-Some.before.now c.in-Some.after.now at.0 at.1 at.2 at.3 at.4 c.in_err-end_groups-in-Some.ensures)

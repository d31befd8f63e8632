use Rattle.std.proofs.{Common.{◌^◌, ◌<◌, length, ap, ◌∙◌, arith, rules}, lemmas.Bool.Decides.{nat_tests}}
use Rattle.iref_component.specs.Ports.{port_number}
use Rattle.iref_component.proofs.PortLemmas.{port_number-parsed}
use Rattle.iref_component.proofs.port.U128TryFromPort.try_from.Goals as goal

pub returns : goal.returns
returns c =
    let digits = c.as_str-digits.result.now in
    let some : 0 < length digits = grind (arith, nat_tests) in
    port_number-parsed digits c.parse.result c.or.result c.parse.ensures.value.0 c.as_str-digits.ensures.in_rule some (search rules)
    ∙ ap (port_number (2 ^ 128)) c.as_str-digits.ensures.text

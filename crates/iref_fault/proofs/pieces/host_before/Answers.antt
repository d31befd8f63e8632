use Rattle.std.proofs.{Common.{◌≡◌, arith, Some, sym, ap, ◌∙◌}, lemmas.Grind.{common_steps}}
use Rattle.std.specs.Option.{option_copied}
use Rattle.iref_fault.specs.Cut.{cut_port}
use Rattle.iref_fault.proofs.HostLemmas.{host_alone, host_len, host_boundary, take-host}
use Rattle.iref_fault.proofs.pieces.host_before.Goals as goal

pub overflow_sub-text : goal.overflow_sub-text
overflow_sub-text c =
    let port : Some c.in-Some.port.now ≡ cut_port c.args.text.now = ap option_copied (sym c.in-Some.is) ∙ c.requires in
    omega (arith, host_len c.args.text.now c.in-Some.port.now port)

pub overflow_sub-text-in-Some : goal.overflow_sub-text-in-Some
overflow_sub-text-in-Some c =
    let port : Some c.in-Some.port.now ≡ cut_port c.args.text.now = ap option_copied (sym c.in-Some.is) ∙ c.requires in
    omega (arith, host_len c.args.text.now c.in-Some.port.now port)

pub range-requires-clause-end_boundary : goal.range-requires-clause-end_boundary
range-requires-clause-end_boundary c = host_boundary c.args.text.now c.in-Some.port.now (ap option_copied (sym c.in-Some.is) ∙ c.requires)

pub returns-in-Some : goal.returns-in-Some
returns-in-Some c = grind (arith, common_steps, take-host)

pub returns-in-None : goal.returns-in-None
returns-in-None c = host_alone c.args.text.now (ap option_copied (sym c.in-None.is) ∙ c.requires)

use Rattle.std.proofs.{Common.{length, arith, ap}, lemmas.Grind.{common_steps}}
use Rattle.iref_fault.proofs.HostLemmas.{host_within, host_len}
use Rattle.iref_fault.proofs.pieces.place_in_host_and_port.Goals as goal

pub place_in_part-place-requires : goal.place_in_part-place-requires
place_in_part-place-requires g c = omega (arith, ap length c.host_before-host.ensures, host_within c.args.text.now, c.requires)

pub overflow_add-start : goal.overflow_add-start
overflow_add-start g c = omega (arith, ap length c.host_before-host.ensures, host_within c.args.text.now, c.requires)

pub overflow_add-start-in-Some : goal.overflow_add-start-in-Some
overflow_add-start-in-Some g c = grind (arith, common_steps, host_len)

pub place_if-requires : goal.place_if-requires
place_if-requires g c = grind (arith, common_steps, host_len)

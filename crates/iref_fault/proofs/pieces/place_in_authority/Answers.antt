use Rattle.std.proofs.{Common.{arith}, lemmas.Grind.{common_steps}}
use Rattle.iref_fault.proofs.HostLemmas.{cut_len}
use Rattle.iref_fault.proofs.pieces.place_in_authority.Goals as goal

pub place_in_host_and_port-place-requires : goal.place_in_host_and_port-place-requires
place_in_host_and_port-place-requires g c = grind (arith, common_steps, cut_len)

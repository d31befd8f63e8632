use Rattle.iref_fault.proofs.FaultValueLemmas.{part_boundary}
use Rattle.iref_fault.proofs.fault.fault_of_part.Goals as goal

pub fault_at-requires : goal.fault_at-requires
fault_at-requires g c = part_boundary c.args.text.now c.utf8.text c.place_in_part.result g.C.CharSet.tests c.args.rule c.place_in_part.ensures

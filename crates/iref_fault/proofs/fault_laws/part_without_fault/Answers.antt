use Rattle.iref_fault.proofs.FaultLemmas.{no_fault_of_part}
use Rattle.iref_fault.proofs.fault_laws.part_without_fault.Goals as goal

pub returns : goal.returns
returns g c = no_fault_of_part g.S.CharSet.tests g.met.S.CharSet.above_ascii

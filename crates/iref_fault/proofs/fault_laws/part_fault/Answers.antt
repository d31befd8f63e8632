use Rattle.iref_fault.proofs.{PieceLemmas.{one_place}, FaultLemmas.{part_fault_is}}
use Rattle.iref_fault.proofs.fault_laws.part_fault.Goals as goal

pub returns : goal.returns
returns g c =
    let set = g.S.CharSet.tests in
    let above = g.met.S.CharSet.above_ascii in
    record { fault = part_fault_is set above; one_place = one_place set }

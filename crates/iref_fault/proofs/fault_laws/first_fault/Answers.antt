use Rattle.iref_fault.proofs.FaultLemmas.{authority_fault_is, reference_fault_is, uri_fault_is, uri_without_scheme}
use Rattle.iref_fault.proofs.fault_laws.first_fault.Goals as goal

pub returns : goal.returns
returns g c =
    let set = g.S.CharSet.tests in
    let above = g.met.S.CharSet.above_ascii in
    record { authority = authority_fault_is set above; reference = reference_fault_is set above; uri = uri_fault_is set above; no_scheme = uri_without_scheme set above }

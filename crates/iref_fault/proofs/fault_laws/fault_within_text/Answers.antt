use Rattle.iref_fault.proofs.FaultLemmas.{part_within, authority_within, reference_within, uri_within}
use Rattle.iref_fault.proofs.fault_laws.fault_within_text.Goals as goal

pub returns : goal.returns
returns g c =
    let set = g.S.CharSet.tests in
    let above = g.met.S.CharSet.above_ascii in
    record { part = part_within set above; authority = authority_within set above; reference = reference_within set above; uri = uri_within set above }

use Rattle.std.proofs.{Common.{arith}, lemmas.Grind.{common_steps}}
use Rattle.iref_fault.proofs.FaultLemmas.{no_fault_of_authority, no_fault_of_reference, no_fault_of_uri}
use Rattle.iref_fault.proofs.fault_laws.text_without_fault.Goals as goal

pub returns : goal.returns
returns g c = grind (arith, common_steps, no_fault_of_authority, no_fault_of_reference, no_fault_of_uri)

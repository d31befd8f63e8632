use Rattle.std.proofs.Common.{ap, ◌∙◌, option_map}
use Rattle.iref_fault.specs.BytePlaces.{value_at}
use Rattle.iref_fault.proofs.FaultValueLemmas.{reference_value, reference_boundary}
use Rattle.iref_fault.proofs.fault.fault_of_reference.Goals as goal

pub fault_at-requires : goal.fault_at-requires
fault_at-requires g c = reference_boundary c.args.text.now c.utf8.text c.place_in_reference.result g.C.CharSet.tests g.met.C.CharSet.above_ascii c.place_in_reference.ensures

pub returns : goal.returns
returns g c = c.fault_at.ensures ∙ ap (option_map (value_at c.args.text.now)) c.place_in_reference.ensures ∙ reference_value g.C.CharSet.tests c.args.text.now c.utf8.text

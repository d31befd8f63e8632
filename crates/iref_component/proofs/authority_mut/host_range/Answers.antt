use Rattle.std.proofs.Common.{arith}
use Rattle.iref_component.proofs.AuthorityEditLemmas.{user_info_range, host_range, port_range}
use Rattle.iref_component.proofs.authority_mut.host_range.Goals as goal

pub returns-clause-user_info : goal.returns-clause-user_info
returns-clause-user_info g c = grind (arith, user_info_range g.C.CharSet.tests g.met.C.CharSet.above_ascii c.args.text.now _ c.split_parts-slices.ensures c.requires)

pub returns-clause-host : goal.returns-clause-host
returns-clause-host g c = grind (arith, host_range g.C.CharSet.tests g.met.C.CharSet.above_ascii c.args.text.now _ c.split_parts-slices.ensures c.requires)

pub returns-clause-port : goal.returns-clause-port
returns-clause-port g c = grind (arith, port_range g.C.CharSet.tests g.met.C.CharSet.above_ascii c.args.text.now _ c.split_parts-slices.ensures c.requires)

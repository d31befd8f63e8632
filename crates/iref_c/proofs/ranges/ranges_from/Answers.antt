use Rattle.std.proofs.Common.{ap, arith}
use Rattle.iref_c.proofs.RangeLemmas.{length-spelled}
use Rattle.iref.specs.AuthoritySlices.{authority_of}
use Rattle.iref_c.proofs.ranges.ranges_from.Goals as goal

pub part_before-host_start-requires : goal.part_before-host_start-requires
part_before-host_start-requires c = omega (arith, length-spelled (authority_of c.args.parts))

pub part_from-host-requires : goal.part_from-host-requires
part_from-host-requires c = omega (arith, length-spelled (authority_of c.args.parts))

pub part_after-port-requires : goal.part_after-port-requires
part_after-port-requires c =
    let end = ap (λ range. range.end) c.part_from-host.ensures in omega (arith, length-spelled (authority_of c.args.parts))

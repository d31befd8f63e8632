use Rattle.std.proofs.Common.{arith, ap, length, ◌∙◌}
use Rattle.std.specs.Option.{option_copied}
use Rattle.iref_fault.proofs.HierarchyPlaceLemmas.{place_in_front, rest_within}
use Rattle.iref_fault.proofs.pieces.place_in_hierarchy.Goals as goal

pub returns : goal.returns
returns g c =
    let set = g.C.CharSet.tests in
    c.or.ensures
    ∙ place_in_front set (option_copied c.cut_scheme.result.0) c.args.text.now c.cut_scheme.result.1.now c.place_if.result c.place_after_scheme.result c.cut_scheme.ensures.scheme c.cut_scheme.ensures.rest c.place_if.ensures c.place_after_scheme.ensures

pub overflow_sub-start : goal.overflow_sub-start
overflow_sub-start g c = omega (arith, ap length c.cut_scheme.ensures.rest, rest_within c.args.text.now)

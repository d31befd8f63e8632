use Rattle.std.proofs.Common.{◌-◌}
use Rattle.iref_path.specs.NormalItems.{normal_left}
use Rattle.iref_component.specs.NormalLeft.{left_of}
use Rattle.iref_component.proofs.NormalLeftLemmas.{cut_off}
use Rattle.iref_component.proofs.normal.left.Left.keep_first.Goals as goal

pub returns-clause-items : goal.returns-clause-items
unfolding left_of
returns-clause-items c =
    let list = c.args.self.now in
    rw c.push.ensures.items
    (cut_off (normal_left c.args.part) (normal_left c.without_last.result) (normal_left list.rest) c.last_after.result list.parts.items
    (c.len.result - c.args.count) c.without_last.ensures.items c.last_after.ensures.items)

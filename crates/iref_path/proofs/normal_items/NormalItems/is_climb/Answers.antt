use Rattle.std.proofs.Common.{arith}
use Rattle.iref_path.specs.NormalItems.{normal_left}
use Rattle.iref_path.proofs.ClimbLemmas.{climb-last}
use Rattle.iref_path.proofs.normal_items.NormalItems.is_climb.Goals as goal

pub returns-in-Some : goal.returns-in-Some
returns-in-Some c =
    let last = climb-last (normal_left c.args.self) (normal_left c.next_back.new.self) c.in-Some.last.now c.in-Some.ensures.item in
    grind arith

use Rattle.std.proofs.{Common.{arith}, lemmas.Grind.{common_steps}}
use Rattle.iref_path.specs.NormalItems.{normal_left}
use Rattle.iref_canonical.proofs.SpelledItemLemmas.{standing-step}
use Rattle.iref_canonical.proofs.path.count_standing.Goals as goal

pub loop-item-preserved-then-decodes_to_dots : goal.loop-item-preserved-then-decodes_to_dots
loop-item-preserved-then-decodes_to_dots c =
    grind (
      arith,
      common_steps,
      standing-step (normal_left c.loop-item.left) (normal_left c.next_back-in-loop-item.new.self) c.in-Some.item.now c.loop-item.standing,
    )

pub loop-item-preserved : goal.loop-item-preserved
loop-item-preserved c =
    grind (
      arith,
      common_steps,
      standing-step (normal_left c.loop-item.left) (normal_left c.next_back-in-loop-item.new.self) c.in-Some.item.now c.loop-item.standing,
    )

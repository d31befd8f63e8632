use Rattle.std.proofs.Common.{arith}
use Rattle.iref_path.specs.NormalItems.{normal_left}
use Rattle.iref_canonical.proofs.SpelledItemLemmas.{closed-step}
use Rattle.iref_canonical.proofs.path.put_closed.Goals as goal

pub put_closed_item-requires : goal.put_closed_item-requires
put_closed_item-requires g c =
    let step = closed-step c.args.raw c.args.standing (normal_left c.loop-item.left) (normal_left c.next_back.new.self) c.in-Some.item.now c.loop-item.at in
    grind (arith, g.met.O.Backward.fits_both, step)

use Rattle.std.proofs.Common.{arith}
use Rattle.iref_path.specs.NormalItems.{normal_left}
use Rattle.iref_canonical.proofs.SpelledItemLemmas.{joined-step}
use Rattle.iref_canonical.proofs.path.put_items.Goals as goal

pub put_name-requires : goal.put_name-requires
put_name-requires g c =
    let step = joined-step c.args.raw c.args.standing (normal_left c.args.left) (normal_left c.next_back.new.self) c.in-Some.last.now c.args.count in
    grind (arith, g.met.O.Backward.fits_both, step)

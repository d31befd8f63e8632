use Rattle.std.proofs.Common.{arith}
use Rattle.iref_canonical.proofs.SpelledItemLemmas.{name-closed}
use Rattle.iref_canonical.proofs.path.put_closed_names.Goals as goal

pub put_closed_item-requires : goal.put_closed_item-requires
put_closed_item-requires g c =
    let step = name-closed c.args.raw c.loop-item.left c.next_back.new.self c.in-Some.item.now in
    grind (arith, g.met.O.Backward.fits_both, step)

use Rattle.std.proofs.Common.{arith}
use Rattle.iref_path.specs.NormalItems.{normal_left}
use Rattle.iref_path.proofs.SpellLemmas.{closed_last}
use Rattle.iref_path.proofs.spell.put_closed.Goals as goal

pub put_segment-requires : goal.put_segment-requires
put_segment-requires g c =
    let step = closed_last (normal_left c.loop-item.left) (normal_left c.next_back.new.self) c.in-Some.item.now c.in-Some.ensures.item in
    grind (arith, g.met.O.Backward.fits_both, step)

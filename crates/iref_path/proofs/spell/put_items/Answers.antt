use Rattle.std.proofs.Common.{arith}
use Rattle.iref_path.specs.NormalItems.{normal_left}
use Rattle.iref_path.proofs.SpellLemmas.{joined_last}
use Rattle.iref_path.proofs.spell.put_items.Goals as goal

pub put-requires : goal.put-requires
put-requires g c =
    let step = joined_last (normal_left c.args.left) (normal_left c.next_back.new.self) c.in-Some.last.now c.in-Some.ensures.item in
    grind (arith, g.met.O.Backward.fits_both, step)

use Rattle.std.proofs.Common.{arith}
use Rattle.iref_canonical.proofs.SpelledItemLemmas.{name-joined}
use Rattle.iref_canonical.proofs.path.put_names.Goals as goal

pub put_name-requires : goal.put_name-requires
put_name-requires g c =
    let step = name-joined c.args.raw c.args.left c.next_back.new.self c.in-Some.last.now in
    grind (arith, g.met.O.Backward.fits_both, step)

use Rattle.std.proofs.Common.{[], ◌∷◌, arith}
use Rattle.iref_canonical.specs.SortKey.{sort_text}
use Rattle.iref_canonical.proofs.sort_parts.put_part.Goals as goal

pub put_bytes-requires : goal.put_bytes-requires
put_bytes-requires g c = grind (arith, g.met.O.Backward.fits_both c.args.out.now (1 ∷ []) (sort_text (g.B.KeyBytes.bytes c.in-Some.part.now)))

use Rattle.std.proofs.Common.{[], ◌∷◌, arith}
use Rattle.percent_encoding.specs.Percent.{percent_decode}
use Rattle.iref_canonical.specs.SortKey.{sort_text}
use Rattle.iref_canonical.proofs.sort_parts.put_option.Goals as goal

pub put_text-requires-clause-fits : goal.put_text-requires-clause-fits
put_text-requires-clause-fits g c = grind (arith, g.met.O.Backward.fits_both c.args.out.now (1 ∷ []) (sort_text (percent_decode c.in-Some.text.now)))

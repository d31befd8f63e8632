use Rattle.std.proofs.Common.{[], ◌∷◌, arith}
use Rattle.iref_canonical.specs.{SortKey.{sort_authority}, SortedReferences.{key_of_authority}}
use Rattle.iref_canonical.proofs.sort_parts.put_authority_option.Goals as goal

pub put_authority-requires-clause-fits : goal.put_authority-requires-clause-fits
put_authority-requires-clause-fits g c = grind (arith, g.met.O.Backward.fits_both c.args.out.now (1 ∷ []) (sort_authority (key_of_authority c.in-Some.text.now)))

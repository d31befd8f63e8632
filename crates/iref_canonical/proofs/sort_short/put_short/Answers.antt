use Rattle.std.proofs.Common.{arith}
use Rattle.iref_canonical.proofs.SortShortLemmas.{shorts, slices_kept}
use Rattle.iref_canonical.proofs.sort_short.put_short.Goals as goal

pub put_all-requires-clause-kept : goal.put_all-requires-clause-kept
put_all-requires-clause-kept c = slices_kept c.args.text.now c.args.slices c.requires.value c.requires.texts (grind (arith, shorts))

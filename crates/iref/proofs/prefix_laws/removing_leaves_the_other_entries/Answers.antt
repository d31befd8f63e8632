use Rattle.iref.proofs.PrefixLemmas.{get-removed, get-left, removed-order, removed-twice, removed-inserted}
use Rattle.iref.proofs.prefix_laws.removing_leaves_the_other_entries.Goals as goal

pub returns : goal.returns
returns c = record { gone = get-removed; others = get-left; order = removed-order; again = removed-twice; undoes = removed-inserted }

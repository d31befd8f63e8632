use Rattle.std.proofs.Common.{arith}
use Rattle.iref_canonical.proofs.SortPutLemmas.{ends_put, length_in, sorted_segments}
use Rattle.iref_canonical.proofs.sort_short.put_items.Goals as goal

pub returns-clause-put : goal.returns-clause-put
returns-clause-put c =
    ends_put _ _ _ _ _ c.put-at.ensures c.in_ok-at.ensures.put c.put-at-2.ensures c.put-2.ensures (grind (arith, sorted_segments, length_in))

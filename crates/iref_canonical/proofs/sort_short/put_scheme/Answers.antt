use Rattle.std.proofs.Common.{arith}
use Rattle.iref_canonical.proofs.SortPutLemmas.{joined_put, lower_kept}
use Rattle.iref_canonical.proofs.sort_short.put_scheme.Goals as goal

pub returns-in-http : goal.returns-in-http
returns-in-http c = joined_put _ _ _ c.put-at.ensures c.put_text.ensures (grind (arith, lower_kept))

pub returns-in-https : goal.returns-in-https
returns-in-https c = joined_put _ _ _ c.put-at.ensures c.put_text-in-https.ensures (grind (arith, lower_kept))

pub returns-in_default-scheme : goal.returns-in_default-scheme
returns-in_default-scheme c = joined_put _ _ _ c.put-at.ensures c.put_lower.ensures (grind (arith, lower_kept))

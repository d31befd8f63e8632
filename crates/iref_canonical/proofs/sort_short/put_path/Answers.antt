use Rattle.std.proofs.{Common.{arith}, lemmas.Option.{IfSome_then}}
use Rattle.iref_canonical.specs.SortKey.{sort_path}
use Rattle.iref_canonical.proofs.{SortCutLemmas.{paths}, SortPutLemmas.{joined_put}}
use Rattle.iref_canonical.proofs.sort_short.put_path.Goals as goal

pub returns-then-path-eq47-clause-put : goal.returns-then-path-eq47-clause-put
unfolding sort_path
returns-then-path-eq47-clause-put c =
    IfSome_then c.put_items.result c.put_items.ensures.put (λ end put. joined_put _ _ _ c.put-at.ensures put (grind (arith, paths)))

pub returns-else-path-gt0-clause-put : goal.returns-else-path-gt0-clause-put
unfolding sort_path
returns-else-path-gt0-clause-put c =
    IfSome_then c.put_items-else-path-gt0.result c.put_items-else-path-gt0.ensures.put (λ end put. joined_put _ _ _ c.put-at-else-path-gt0.ensures put (grind (arith, paths)))

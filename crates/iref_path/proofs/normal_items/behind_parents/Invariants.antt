use Rattle.std.proofs.Common.{◌+◌, ◌≤◌, length}
use Rattle.iref_path.specs.Pieces.{pieces_if_some}
use Rattle.iref_path.proofs.NormalItemsLemmas.{IsScanned}
use Rattle.iref_path.proofs.normal_items.behind_parents.Given as goal

abbrev pub invariant-loop-left : goal.invariant-loop-left
invariant-loop-left l = record {
  scanned : IsScanned (pieces_if_some l.segments) (pieces_if_some l.left) (pieces_if_some l.behind) l.names;
  count : l.names + length (pieces_if_some l.left) ≤ length (pieces_if_some l.segments);
}

abbrev pub decreases-loop-left : goal.decreases-loop-left
decreases-loop-left l = length (pieces_if_some l.left)

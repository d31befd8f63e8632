use Rattle.std.proofs.Common.{◌≡◌, length}
use Rattle.iref_grammar.specs.CountedEquality.{items_compared}
use Rattle.iref_path.specs.{CountedPath.{IsCountable, items_unread, segments_of}, CountedSegments.{IsCounted}}
use Rattle.iref_path.proofs.counted.items_eq.Given as goal

abbrev pub invariant-loop-item : goal.invariant-loop-item
invariant-loop-item l = record {
  same : items_compared (items_unread l.left) (items_unread l.right) ≡ items_compared (items_unread l.fn.left) (items_unread l.fn.right);
  left : IsCountable l.left;
  right : IsCountable l.right;
  left_counted : IsCounted (segments_of l.fn.left) (segments_of l.left);
  right_counted : IsCounted (segments_of l.fn.right) (segments_of l.right);
}

abbrev pub decreases-loop-item : goal.decreases-loop-item
decreases-loop-item l = length (items_unread l.left)

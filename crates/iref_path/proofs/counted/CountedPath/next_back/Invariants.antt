use Rattle.std.proofs.Common.{◌≡◌, length}
use Rattle.iref_path.specs.CountedPath.{IsCountable, items_unread, segments_of, segments_unread}
use Rattle.iref_path.specs.CountedSegments.{IsCounted}
use Rattle.iref_path.proofs.counted.CountedPath.next_back.Given as goal

abbrev pub invariant-loop-segment : goal.invariant-loop-segment
invariant-loop-segment l = record {
  same : items_unread l.self ≡ items_unread l.fn.self;
  countable : IsCountable l.self;
  counted : IsCounted (segments_of l.fn.self) (segments_of l.self);
}

abbrev pub decreases-loop-segment : goal.decreases-loop-segment
decreases-loop-segment l = length (segments_unread l.self)

use Rattle.std.proofs.Common.{◌≡◌, length}
use Rattle.std.specs.List.{flat_map}
use Rattle.iref_path.specs.Pieces.{pieces_if_some}
use Rattle.iref_canonical.specs.{SortItems.{AreKept}, SortKey.{sort_item}}
use Rattle.iref_canonical.proofs.sort_path.put_segments.Given as goal

abbrev pub invariant-loop-left : goal.invariant-loop-left
invariant-loop-left g l = record {
  same : g.O.Backward.after l.out (flat_map sort_item (pieces_if_some l.left)) ≡ g.O.Backward.after l.fn.out (flat_map sort_item (pieces_if_some l.fn.segments));
  fits : g.O.Backward.fits l.out (flat_map sort_item (pieces_if_some l.left));
  kept : AreKept (pieces_if_some l.left);
}

abbrev pub decreases-loop-left : goal.decreases-loop-left
decreases-loop-left g l = length (pieces_if_some l.left)

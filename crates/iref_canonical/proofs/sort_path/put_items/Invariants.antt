use Rattle.std.proofs.Common.{◌≡◌, length}
use Rattle.std.specs.List.{flat_map}
use Rattle.iref_path.specs.NormalItems.{decoded_left, IsSound, normal_left}
use Rattle.iref_canonical.specs.SortKey.{sort_item}
use Rattle.iref_canonical.proofs.sort_path.put_items.Given as goal

abbrev pub invariant-loop-item : goal.invariant-loop-item
invariant-loop-item g l = record {
  same : g.O.Backward.after l.out (flat_map sort_item (decoded_left l.left)) ≡ g.O.Backward.after l.fn.out (flat_map sort_item (decoded_left l.fn.left));
  fits : g.O.Backward.fits l.out (flat_map sort_item (decoded_left l.left));
  sound : IsSound l.left;
}

abbrev pub decreases-loop-item : goal.decreases-loop-item
decreases-loop-item g l = length (normal_left l.left)

use Rattle.std.proofs.Common.{◌≡◌, ◌+◌, ◌<◌, ◌^◌, length}
use Rattle.iref_path.specs.NormalItems.{decoded_left, IsSound, normal_left}
use Rattle.iref_canonical.specs.SpelledItems.{standing_before, standing_of}
use Rattle.iref_canonical.proofs.path.count_standing.Given as goal

abbrev pub invariant-loop-item : goal.invariant-loop-item
invariant-loop-item l = record {
  same : standing_before (decoded_left l.left) l.standing ≡ standing_of (decoded_left l.fn.left);
  countable : l.standing + length (normal_left l.left) < 2 ^ 64;
  sound : IsSound l.left;
}

abbrev pub decreases-loop-item : goal.decreases-loop-item
decreases-loop-item l = length (normal_left l.left)

use Rattle.std.proofs.Common.{◌≡◌, length}
use Rattle.iref_path.specs.{NormalItems.{decoded_left, IsSound, normal_left}, Spelling.{each_closed}}
use Rattle.iref_canonical.specs.SpelledItems.{spelled_items}
use Rattle.iref_canonical.proofs.path.put_closed.Given as goal

abbrev pub invariant-loop-item : goal.invariant-loop-item
invariant-loop-item g l = record {
  same : g.O.Backward.after l.out (each_closed (spelled_items l.raw l.standing (decoded_left l.left))) ≡ g.O.Backward.after l.fn.out (each_closed (spelled_items l.raw l.standing (decoded_left l.fn.left)));
  fits : g.O.Backward.fits l.out (each_closed (spelled_items l.raw l.standing (decoded_left l.left)));
  at : l.at ≡ length (normal_left l.left);
  sound : IsSound l.left;
}

abbrev pub decreases-loop-item : goal.decreases-loop-item
decreases-loop-item g l = l.at

use Rattle.std.proofs.Common.{◌≡◌, length, map}
use Rattle.percent_encoding.specs.Percent.{percent_decode}
use Rattle.iref_path.specs.Spelling.{each_closed}
use Rattle.iref_canonical.specs.SpelledItems.{spelled_items}
use Rattle.iref_canonical.proofs.path.put_closed_names.Given as goal

abbrev pub invariant-loop-item : goal.invariant-loop-item
invariant-loop-item g l = record {
  same : g.O.Backward.after l.out (each_closed (spelled_items l.raw 0 (map percent_decode l.left))) ≡ g.O.Backward.after l.fn.out (each_closed (spelled_items l.raw 0 (map percent_decode l.fn.left)));
  fits : g.O.Backward.fits l.out (each_closed (spelled_items l.raw 0 (map percent_decode l.left)));
}

abbrev pub decreases-loop-item : goal.decreases-loop-item
decreases-loop-item g l = length l.left

use Rattle.std.proofs.Common.{◌≡◌, drop}
use Rattle.iref_path.specs.{Spelling.{each_closed}, Stacks.{in_order}}
use Rattle.iref_path.proofs.spell.put_stacked_closed.Given as goal

abbrev pub invariant-loop-item : goal.invariant-loop-item
invariant-loop-item g l = record {
  same : g.O.Backward.after l.out (each_closed (in_order (drop l.item-index l.items))) ≡ g.O.Backward.after l.fn.out (each_closed (in_order l.fn.items));
  fits : g.O.Backward.fits l.out (each_closed (in_order (drop l.item-index l.items)));
}

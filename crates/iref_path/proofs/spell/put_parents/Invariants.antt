use Rattle.std.proofs.Common.{◌≡◌, ◌-◌, codes, replicate}
use Rattle.iref_path.specs.Spelling.{each_closed}
use Rattle.iref_path.proofs.spell.put_parents.Given as goal

abbrev pub invariant-loop : goal.invariant-loop
invariant-loop g l = record {
  same : g.O.Backward.after l.out (each_closed (replicate (l.fn.count - l.counter) (codes ".."))) ≡ g.O.Backward.after l.fn.out (each_closed (replicate l.fn.count (codes "..")));
  fits : g.O.Backward.fits l.out (each_closed (replicate (l.fn.count - l.counter) (codes "..")));
}

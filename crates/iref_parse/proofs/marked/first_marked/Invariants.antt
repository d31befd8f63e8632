use Rattle.std.proofs.Common.{◌-◌}
use Rattle.iref_parse.proofs.PositionLemmas.{IsClearFront}
use Rattle.iref_parse.proofs.marked.first_marked.Given as goal

abbrev pub invariant-loop-at : goal.invariant-loop-at
invariant-loop-at g l = IsClearFront (g.M.Marks.mark l.marks) l.len l.at

abbrev pub decreases-loop-at : goal.decreases-loop-at
decreases-loop-at g l = l.len - l.at

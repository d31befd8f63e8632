use Rattle.std.proofs.Common.{length}
use Rattle.iref_path.specs.Forward.{Follows}
use Rattle.iref_path.proofs.forward.put_all.Given as goal

abbrev pub invariant-loop-left : goal.invariant-loop-left
invariant-loop-left l = Follows l.floor l.initial.out.items l.out.items l.text l.left

abbrev pub decreases-loop-left : goal.decreases-loop-left
decreases-loop-left l = length l.left

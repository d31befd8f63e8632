use Rattle.std.proofs.Common.{◌≡◌, length, IsUtf8}
use Rattle.iref_fault.specs.CutSteps.{after_last}
use Rattle.iref_fault.proofs.pieces.after_last.Given as goal

abbrev pub invariant-loop-after : goal.invariant-loop-after
invariant-loop-after l = IsUtf8 l.rest × (after_last l.text ≡ after_last l.rest)

abbrev pub decreases-loop-after : goal.decreases-loop-after
decreases-loop-after l = length l.rest

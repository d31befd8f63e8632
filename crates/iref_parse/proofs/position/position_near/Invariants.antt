use Rattle.std.proofs.Common.{◌-◌, length}
use Rattle.iref_parse.proofs.PositionLemmas.{IsClearFront, either_at}
use Rattle.iref_parse.proofs.position.position_near.Given as goal

abbrev pub invariant-loop-at : goal.invariant-loop-at
invariant-loop-at l = IsClearFront (either_at l.first l.second l.bytes) (length l.bytes) l.at

abbrev pub decreases-loop-at : goal.decreases-loop-at
decreases-loop-at l = length l.bytes - l.at

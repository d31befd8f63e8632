use Rattle.std.proofs.Common.{◌-◌, length}
use Rattle.iref_parse.proofs.{PairLemmas.{pairs_at}, PositionLemmas.{IsClearFront}}
use Rattle.iref_parse.proofs.dots.position_of_slash_dot.Given as goal

abbrev pub invariant-loop-at : goal.invariant-loop-at
invariant-loop-at l = IsClearFront (pairs_at 0x2F 0x2E l.path) (length l.path) l.at

abbrev pub decreases-loop-at : goal.decreases-loop-at
decreases-loop-at l = length l.path - l.at

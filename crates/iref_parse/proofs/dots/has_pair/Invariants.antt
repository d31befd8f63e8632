use Rattle.std.proofs.Common.{◌+◌, ◌-◌, ◌≤◌, length}
use Rattle.iref_parse.proofs.{PairLemmas.{pairs_at}, SeenLemmas.{Seen}}
use Rattle.iref_parse.proofs.dots.has_pair.Given as goal

abbrev pub invariant-loop-at : goal.invariant-loop-at
invariant-loop-at l = (l.at + 1 ≤ length l.path) × Seen (pairs_at l.first l.second l.path) (length l.path - 1) l.at l.seen

abbrev pub decreases-loop-at : goal.decreases-loop-at
decreases-loop-at l = length l.path - l.at

use Rattle.std.proofs.Common.{◌≡◌, ℕ, ◌-◌, ◌<◌, ◌≤◌, false, length}
use Rattle.iref_parse.specs.Dots.{is_pair}
use Rattle.iref_parse.proofs.dots.pair_near.Given as goal

abbrev pub invariant-loop-at : goal.invariant-loop-at
invariant-loop-at l = (l.at ≤ length l.path) × ((k : ℕ) → l.from ≤ k → k < l.at → is_pair l.first l.second l.path k ≡ false)

abbrev pub decreases-loop-at : goal.decreases-loop-at
decreases-loop-at l = length l.path - l.at

use Rattle.std.proofs.Common.{◌≡◌, ◌%◌, ◌-◌, ◌≤◌, length}
use Rattle.iref_parse.proofs.KeptBlockLemmas.{KeptTo}
use Rattle.iref_parse.proofs.unescaped.are_kept_blocks.Given as goal

abbrev pub invariant-loop-at : goal.invariant-loop-at
invariant-loop-at l = (l.at ≤ length l.bytes) × (l.at % 16 ≡ 0) × KeptTo l.bytes l.at l.least l.percent

abbrev pub decreases-loop-at : goal.decreases-loop-at
decreases-loop-at l = length l.bytes - l.at

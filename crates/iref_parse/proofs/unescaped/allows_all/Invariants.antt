use Rattle.std.proofs.Common.{◌-◌, ◌≤◌, length}
use Rattle.iref_parse.proofs.{UnescapedLemmas.{marks_at}, SeenLemmas.{Seen}}
use Rattle.iref_parse.proofs.unescaped.allows_all.Given as goal

abbrev pub invariant-loop-at : goal.invariant-loop-at
invariant-loop-at g l = (l.at ≤ length l.bytes) × Seen (marks_at g.R.ByteRule.mark l.bytes) (length l.bytes) l.at l.seen

abbrev pub decreases-loop-at : goal.decreases-loop-at
decreases-loop-at g l = length l.bytes - l.at

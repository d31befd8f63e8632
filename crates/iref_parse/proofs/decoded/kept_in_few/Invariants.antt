use Rattle.std.proofs.Common.{◌-◌}
use Rattle.iref_parse.proofs.KeptLemmas.{AreKept}
use Rattle.iref_parse.proofs.decoded.kept_in_few.Given as goal

abbrev pub invariant-loop-at : goal.invariant-loop-at
invariant-loop-at l = AreKept l.a l.b l.at

abbrev pub decreases-loop-at : goal.decreases-loop-at
decreases-loop-at l = l.len - l.at

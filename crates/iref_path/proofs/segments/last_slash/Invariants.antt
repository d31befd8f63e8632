use Rattle.std.proofs.Common.{◌≤◌, length}
use Rattle.iref_path.specs.Slashes.{LacksSlashFrom}
use Rattle.iref_path.proofs.segments.last_slash.Given as goal

abbrev pub invariant-loop-end : goal.invariant-loop-end
invariant-loop-end l = record {
  within : l.end ≤ length l.bytes;
  behind : LacksSlashFrom l.bytes l.end;
}

abbrev pub decreases-loop-end : goal.decreases-loop-end
decreases-loop-end l = l.end

abbrev pub invariant-loop-end-2 : goal.invariant-loop-end-2
invariant-loop-end-2 l = record {
  within : l.end ≤ length l.bytes;
  behind : LacksSlashFrom l.bytes l.end;
}

abbrev pub decreases-loop-end-2 : goal.decreases-loop-end-2
decreases-loop-end-2 l = l.end

use Rattle.std.proofs.Common.{◌-◌, ◌≤◌, drop, take}
use Rattle.iref_canonical.specs.SortPuts.{segment_bytes}
use Rattle.iref_canonical.proofs.{SortBlockLemmas.{IsDotlessBefore}, SortPutLemmas.{IsPutting}}
use Rattle.iref_canonical.proofs.sort_short.put_segments.Given as goal

abbrev pub invariant-loop-end : goal.invariant-loop-end
invariant-loop-end l = record {
  putting : IsPutting l.fn.at (segment_bytes (take l.text.len l.text.bytes.now)) (segment_bytes (take (l.text.len - l.from) (drop l.from l.text.bytes.now))) l.fn.buffer l.buffer l.end;
  within : l.from ≤ l.text.len;
  dotless : IsDotlessBefore l.from l.text.bytes.now;
}

abbrev pub decreases-loop-end : goal.decreases-loop-end
decreases-loop-end l = l.text.len - l.from

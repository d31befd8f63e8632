use Rattle.std.proofs.Common.{◌≡◌, ◌≤◌, ◌+◌, ◌++◌, drop, length}
use Rattle.iref_grammar.specs.NormalReading.{open_before, staying_before}
use Rattle.iref_path.specs.{Rewriting.{pieces_before}, Spelling.{each_closed}}
use Rattle.iref_path.proofs.rewriting.move_names.Given as goal

abbrev pub invariant-loop-unread : goal.invariant-loop-unread
invariant-loop-unread l = record {
  written : each_closed (staying_before (pieces_before l.bytes l.unread) l.open_parents) ++ drop l.start l.bytes
      ≡ each_closed (staying_before (pieces_before l.fn.bytes l.fn.unread) l.fn.open_parents) ++ drop l.fn.end l.fn.bytes;
  range : l.start + length (each_closed (staying_before (pieces_before l.fn.bytes l.fn.unread) l.fn.open_parents))
      ≡ l.fn.end + length (each_closed (staying_before (pieces_before l.bytes l.unread) l.open_parents));
  parents : open_before (pieces_before l.bytes l.unread) l.open_parents ≡ open_before (pieces_before l.fn.bytes l.fn.unread) l.fn.open_parents;
  before : l.unread ≤ l.start;
  within : l.start ≤ length l.bytes;
  countable : l.unread + l.open_parents ≤ l.fn.unread + l.fn.open_parents;
}

abbrev pub decreases-loop-unread : goal.decreases-loop-unread
decreases-loop-unread l = l.unread

use Rattle.std.proofs.Common.{◌≡◌, ◌+◌, ◌++◌, drop, length, codes, replicate}
use Rattle.iref_path.specs.Spelling.{each_closed}
use Rattle.iref_path.proofs.rewriting.write_parents.Given as goal

abbrev pub invariant-loop : goal.invariant-loop
invariant-loop l = record {
  written : drop l.start l.bytes ≡ each_closed (replicate l.counter (codes "..")) ++ drop l.fn.end l.fn.bytes;
  range : l.start + length (each_closed (replicate l.counter (codes ".."))) ≡ l.fn.end;
}

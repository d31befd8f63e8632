use Rattle.std.proofs.Common.{◌≡◌, ◌++◌, false, length}
use Rattle.iref.specs.Rules.{Text}
use Rattle.iref_batch.specs.Gathering.{Writes}
use Rattle.iref_batch.proofs.lines.write_all.Given as goal

abbrev pub invariant-loop-rest : goal.invariant-loop-rest
invariant-loop-rest g l = record {
  written : (front : Text) × (l.bytes ≡ front ++ l.rest) × Writes front (g.W.Sink.contents l.initial.writer) (g.W.Sink.contents l.writer);
  works : g.W.Sink.has_failed l.writer ≡ false;
}

abbrev pub decreases-loop-rest : goal.decreases-loop-rest
decreases-loop-rest g l = length l.rest

use Rattle.std.proofs.Common.{◌≡◌, ◌++◌, false, length}
use Rattle.iref.specs.Rules.{Text}
use Rattle.iref_batch.specs.Gathering.{SeesMore}
use Rattle.iref_batch.proofs.lines.Lines.take.Given as goal

abbrev pub invariant-loop-tail : goal.invariant-loop-tail
invariant-loop-tail g l = record {
  taken : (front : Text) × (l.block ≡ front ++ l.rest) × SeesMore front (g.W.Sink.contents l.initial.writer) (g.W.Sink.contents l.writer) l.initial.self l.self;
  works : g.W.Sink.has_failed l.writer ≡ false;
}

abbrev pub decreases-loop-tail : goal.decreases-loop-tail
decreases-loop-tail g l = length l.rest

use Rattle.std.proofs.Common.{◌≡◌, [], false, Some}
use Rattle.iref.specs.Rules.{Text}
use Rattle.iref_batch.proofs.InputLemmas.{InInput}
use Rattle.iref_batch.proofs.run.Given as goal

abbrev pub invariant-loop-reads : goal.invariant-loop-reads
invariant-loop-reads g l = record {
  reader_works : g.R.Source.has_failed l.reader ≡ false;
  writer_works : g.W.Sink.has_failed l.writer ≡ false;
  gathered : l.lines.gathered.bytes.items ≡ [];
  in_input : (input before : Text) → g.R.Source.remaining l.initial.reader ≡ Some input → g.W.Sink.contents l.initial.writer ≡ Some before → InInput input before l._reads (g.R.Source.remaining l.reader) (g.W.Sink.contents l.writer) l.lines;
}

use Rattle.std.proofs.Common.{arith}
use Rattle.iref_batch.proofs.Writing.{on_err}
use Rattle.iref_batch.proofs.InputLemmas.{input_start, input_more, input_ended, input_cut_at_end, input_cut, reader_failure, no_end}
use Rattle.iref_batch.proofs.run.Goals as goal

pub loop-reads-init : goal.loop-reads-init
loop-reads-init g c = record {
  reader_works = c.requires.reader;
  writer_works = c.requires.writer;
  gathered = c.new-lines.ensures.gathered;
  in_input = (λ input before h k. input_start input before _ _ _ c.new-lines.ensures.gathered c.new-lines.ensures.begun h k);
}

pub loop-reads-preserved : goal.loop-reads-preserved
loop-reads-preserved g c = record {
  reader_works = c.in_ok-n.ensures.failed;
  writer_works = c.in_ok-take.ensures.failed;
  gathered = c.in_ok-take.ensures.gathered;
  in_input = (λ input before h k. input_more input before c.read.new.buf c.in_ok-n.n _ _ _ _ _ _ _ (omega arith) c.in_ok-n.ensures.bound c.in_ok-n.ensures.bytes.0 c.in_ok-take.ensures.ok (c.loop-reads.invariant.in_input input before h k));
}

pub returns-in_err-n-clause-reader_ends : goal.returns-in_err-n-clause-reader_ends
returns-in_err-n-clause-reader_ends g c =
    on_err c.from_residual.result (λ works input before h k.
    reader_failure input before _ _ _ _ _ _ c.loop-reads.invariant.gathered c.in_err-n.ensures.bytes c.in_err-n.ensures.failed (c.loop-reads.invariant.in_input input before h k))

pub returns-clause-reader_ends : goal.returns-clause-reader_ends
returns-clause-reader_ends g c = λ works input before h k.
    no_end input before _ _ _ _ _ c.loop-reads.invariant.gathered c.loop-reads-test.false (c.loop-reads.invariant.in_input input before h k)

pub returns-in_err-end-clause-writer_fails : goal.returns-in_err-end-clause-writer_fails
returns-in_err-end-clause-writer_fails g c =
    let bytes = c.in_ok-n.ensures.bytes in
    on_err c.from_residual-in_err-end.result (λ fails input before h k.
    input_cut_at_end input before c.read.new.buf c.in_ok-n.n _ _ _ _ _ _ c.if-n-eq0.true bytes.0 (bytes.1 c.if-n-eq0.true (omega arith)) c.in_err-end.ensures.cut (c.loop-reads.invariant.in_input input before h k))

pub returns-then-n-eq0-clause-ok : goal.returns-then-n-eq0-clause-ok
returns-then-n-eq0-clause-ok g c = λ input before h k.
    let bytes = c.in_ok-n.ensures.bytes in
    input_ended input before c.read.new.buf c.in_ok-n.n _ _ _ _ _ _ c.if-n-eq0.true bytes.0 (bytes.1 c.if-n-eq0.true (omega arith)) c.in_ok-end.ensures.ok (c.loop-reads.invariant.in_input input before h k)

pub returns-in_err-take-clause-writer_fails : goal.returns-in_err-take-clause-writer_fails
returns-in_err-take-clause-writer_fails g c =
    on_err c.from_residual-in_err-take.result (λ fails input before h k.
    input_cut input before c.read.new.buf c.in_ok-n.n _ _ _ _ _ _ c.in_ok-n.ensures.bytes.0 c.in_err-take.ensures.cut (c.loop-reads.invariant.in_input input before h k))

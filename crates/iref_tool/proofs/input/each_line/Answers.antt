use Rattle.std.proofs.Common.{arith}
use Rattle.iref_tool.proofs.StreamLemmas.{input_start, input_more, input_ended, input_kept, input_cut, on_read_error}
use Rattle.iref_tool.proofs.input.each_line.Goals as goal

pub loop-reads-init : goal.loop-reads-init
loop-reads-init g c = record {
  read = input_start g.T.TakesLines.given _ _ _ (g.met.T.TakesLines.given_none _) c.new-begun.ensures;
  settled = λ h. h;
}

pub loop-reads-preserved : goal.loop-reads-preserved
loop-reads-preserved g c = record {
  read = input_more g.T.TakesLines.given g.met.T.TakesLines.given_more c.read.new.buf c.in_ok-n.n _ _ _ _ _ _ _ _ _ c.in_ok-n.ensures.bytes.0 c.in_ok-take_block.ensures.more c.in_ok-pause.ensures.no_line c.loop-reads.invariant.read;
  settled = λ _. c.in_ok-pause.ensures.settled;
}

pub returns-then-n-eq0-clause-lines : goal.returns-then-n-eq0-clause-lines
returns-then-n-eq0-clause-lines g c =
    let bytes = c.in_ok-n.ensures.bytes in
    input_ended g.T.TakesLines.given c.read.new.buf c.in_ok-n.n _ _ _ _ _ _ _ c.if-n-eq0.true bytes.0 (bytes.1 c.if-n-eq0.true (omega arith)) c.in_ok-end_input.ensures.lines c.loop-reads.invariant.read

pub returns-in_err-n-clause-cut : goal.returns-in_err-n-clause-cut
returns-in_err-n-clause-cut g c =
    let given = g.T.TakesLines.given in
    on_read_error c.from_residual.result (input_cut given _ _ _ _ _ (input_kept given _ _ _ _ _ _ c.in_err-n.ensures.bytes c.loop-reads.invariant.read))

pub returns-clause-cut : goal.returns-clause-cut
returns-clause-cut g c = input_cut g.T.TakesLines.given _ _ _ _ _ c.loop-reads.invariant.read

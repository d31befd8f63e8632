use Rattle.std.proofs.Common.{◌++◌, take}
use Rattle.iref_batch.proofs.Writing.{on_err, writes_from_appends, writes_more, part_at_failure, cut_again, all_cut}
use Rattle.iref_batch.proofs.lines.write_all.Goals as goal

pub loop-rest-preserved : goal.loop-rest-preserved
loop-rest-preserved g c =
    let w = c.loop-rest.invariant.written in
    let n = c.in_ok-n.n in
    let rest = c.loop-rest.rest.now in record {
      written = (w.0 ++ take n rest, cut_again c.args.bytes.now w.0 rest n w.1, writes_more w.0 (take n rest) _ _ _ w.2 (writes_from_appends _ _ _ c.in_ok-n.ensures.bytes));
      works = c.in_ok-n.ensures.failed;
    }

pub returns-clause-ok : goal.returns-clause-ok
returns-clause-ok g c =
    let w = c.loop-rest.invariant.written in
    rw (all_cut c.args.bytes.now w.0 c.loop-rest.rest.now w.1 c.loop-rest-test.ensures) w.2

pub returns-in_err-n-clause-cut : goal.returns-in_err-n-clause-cut
returns-in_err-n-clause-cut g c =
    let w = c.loop-rest.invariant.written in
    on_err c.from_residual.result (rw w.1 (part_at_failure w.0 c.loop-rest.rest.now _ _ _ w.2 c.in_err-n.ensures.bytes))

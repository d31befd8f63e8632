use Rattle.iref_batch.proofs.Writing.{on_err, writes_more, part_after, part_of_more}
use Rattle.iref_batch.proofs.lines.Gathered.refuse.Goals as goal

pub returns-clause-ok : goal.returns-clause-ok
returns-clause-ok g c = writes_more c.args.self.now.bytes.items _ _ _ _ c.in_ok-flush.ensures.ok c.in_ok-write_all.ensures.ok

pub returns-in_err-flush-clause-cut : goal.returns-in_err-flush-clause-cut
returns-in_err-flush-clause-cut g c =
    on_err c.from_residual.result (part_of_more c.args.self.now.bytes.items _ _ _ c.in_err-flush.ensures.cut)

pub returns-in_err-write_all-clause-cut : goal.returns-in_err-write_all-clause-cut
returns-in_err-write_all-clause-cut g c =
    on_err c.from_residual-in_err-write_all.result (part_after c.args.self.now.bytes.items _ _ _ _ c.in_ok-flush.ensures.ok c.in_err-write_all.ensures.cut)

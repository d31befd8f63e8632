use Rattle.std.proofs.Common.{refl}
use Rattle.iref_batch.proofs.{Writing.{on_err}, RunLemmas.{in_run_line}, EndLemmas.{breaks_at_line}}
use Rattle.iref_batch.proofs.lines.Lines.end_line.Goals as goal

pub returns-clause-ok : goal.returns-clause-ok
returns-clause-ok g c = in_run_line c.args.tail.now _ _ _ _ c.requires.line (c.empty.ensures, refl) c.in_ok-reply.ensures.ok

pub returns-in_err-reply-clause-cut : goal.returns-in_err-reply-clause-cut
returns-in_err-reply-clause-cut g c =
    on_err c.from_residual.result (λ others. breaks_at_line c.args.tail.now others _ _ _ c.requires.line c.in_err-reply.ensures.cut)

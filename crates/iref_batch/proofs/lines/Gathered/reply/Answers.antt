use Rattle.std.proofs.Common.{◌++◌, ap, inl, inr, refl}
use Rattle.iref_batch.specs.Runs.{line_reply, memory_refused, with_newline}
use Rattle.iref_batch.proofs.{Writing.{on_err}, ReplyLemmas.{answer_gathered, reply_cut, reply_written}}
use Rattle.iref_batch.proofs.lines.Gathered.reply.Goals as goal

pub returns-in_default-clause-ok : goal.returns-in_default-clause-ok
returns-in_default-clause-ok g c =
    reply_written c.args.line.now c.args.self.now.bytes.items memory_refused (inr refl)
    (ap (λ text. text ++ with_newline memory_refused) c.in_default.ensures.err) c.in_ok-refuse.ensures.empty c.in_ok-refuse.ensures.ok

pub returns-in_err-refuse-clause-cut : goal.returns-in_err-refuse-clause-cut
returns-in_err-refuse-clause-cut g c =
    on_err c.from_residual.result (reply_cut c.args.line.now c.args.self.now.bytes.items memory_refused (inr refl)
    (ap (λ text. text ++ with_newline memory_refused) c.in_default.ensures.err) c.in_err-refuse.ensures.cut)

pub returns-in_ok-flush-clause-ok : goal.returns-in_ok-flush-clause-ok
returns-in_ok-flush-clause-ok g c =
    reply_written c.args.line.now c.args.self.now.bytes.items (line_reply c.args.line.now) (inl refl) c.in-Ok.ensures.ok c.in_ok-flush.ensures.empty c.in_ok-flush.ensures.ok

pub returns-in_err-flush-clause-cut : goal.returns-in_err-flush-clause-cut
returns-in_err-flush-clause-cut g c =
    on_err c.from_residual-in_err-flush.result (reply_cut c.args.line.now c.args.self.now.bytes.items (line_reply c.args.line.now) (inl refl) c.in-Ok.ensures.ok c.in_err-flush.ensures.cut)

pub returns-else-len-ge-GATHERED-clause-ok : goal.returns-else-len-ge-GATHERED-clause-ok
returns-else-len-ge-GATHERED-clause-ok g c = answer_gathered c.args.line.now _ c.args.self.now.bytes.items _ c.in-Ok.ensures.ok

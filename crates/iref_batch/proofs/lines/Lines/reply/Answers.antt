use Rattle.std.proofs.Common.{◌++◌, inr, refl}
use Rattle.iref_batch.specs.Runs.{memory_refused}
use Rattle.iref_batch.proofs.{Writing.{on_err}, ReplyLemmas.{reply_cut, reply_written}, SeenLemmas.{nothing_begun}}
use Rattle.iref_batch.proofs.lines.Lines.reply.Goals as goal

pub returns-in_err-reply-clause-cut : goal.returns-in_err-reply-clause-cut
returns-in_err-reply-clause-cut g c =
    on_err c.from_residual.result (λ line holds. rw (nothing_begun c.args.self.now.begun line (c.is_empty.ensures.nothing c.if-is_empty.true) holds) c.in_err-reply.ensures.cut)

pub returns-in_err-refuse-clause-cut : goal.returns-in_err-refuse-clause-cut
returns-in_err-refuse-clause-cut g c =
    on_err c.from_residual-in_err-refuse.result (λ line holds. reply_cut (line ++ c.args.tail.now) c.args.self.now.gathered.bytes.items memory_refused (inr refl) refl c.in_err-refuse.ensures.cut)

pub returns-in_ok-refuse-clause-ok : goal.returns-in_ok-refuse-clause-ok
returns-in_ok-refuse-clause-ok g c =
    λ line holds. reply_written (line ++ c.args.tail.now) c.args.self.now.gathered.bytes.items memory_refused (inr refl) refl c.in_ok-refuse.ensures.empty c.in_ok-refuse.ensures.ok

use Rattle.std.proofs.{Common.{arith}, lemmas.Grind.{common_steps}}
use Rattle.iref_batch.proofs.AnswerLemmas.{reply_of}
use Rattle.iref_batch.proofs.answers.answer_line.Goals as goal

pub returns-clause-ok : goal.returns-clause-ok
returns-clause-ok c = rw (reply_of c.args.line.now _ c.read_request.ensures) (grind (arith, common_steps))

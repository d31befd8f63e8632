use Rattle.std.proofs.Common.{rules}
use Rattle.iref_batch.proofs.answers.put_answer.Goals as goal

pub returns-in-Some-Resolve : goal.returns-in-Some-Resolve
returns-in-Some-Resolve c = search rules

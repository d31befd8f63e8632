use Rattle.std.proofs.Common.{refl}
use Rattle.iref_c.proofs.AnswerLemmas.{invalid_answer}
use Rattle.iref_c.proofs.comparison.iref_equal.Goals as goal

pub returns-in-Err : goal.returns-in-Err
returns-in-Err c = invalid_answer c.in-Err.ensures.invalid refl

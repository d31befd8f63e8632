use Rattle.iref_fault.proofs.BracketLemmas.{after-shorter}
use Rattle.iref_fault.proofs.pieces.after_bracket.Goals as goal

pub returns-clause-shorter : goal.returns-clause-shorter
returns-clause-shorter c = after-shorter c.args.text.now c.cut.result.1 c.cut.ensures.after

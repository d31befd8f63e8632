use Rattle.std.proofs.Common.{[], ◌∷◌, Some}
use Rattle.iref_tool.specs.LineRunLaws.{AnswersLines-both}
use Rattle.iref_tool.proofs.lines.LinesTakesLines.take.Goals as goal

pub returns-in_ok-settle-clause-line : goal.returns-in_ok-settle-clause-line
returns-in_ok-settle-clause-line g c =
    AnswersLines-both g.W.Write.contents _ _ _ (Some c.args.line.now ∷ []) [] c.in_ok-answer.ensures c.in_ok-settle.ensures.lines

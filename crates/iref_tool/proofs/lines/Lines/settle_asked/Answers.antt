use Rattle.std.proofs.Common.{refl}
use Rattle.iref_tool.proofs.LineRunLemmas.{lines_kept}
use Rattle.iref_tool.proofs.lines.Lines.settle_asked.Goals as goal

pub returns-then-is_empty-clause-lines : goal.returns-then-is_empty-clause-lines
returns-then-is_empty-clause-lines g c = lines_kept g.W.Write.contents _ _ refl refl refl

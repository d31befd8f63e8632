use Rattle.std.proofs.Common.{refl}
use Rattle.iref_tool.proofs.LineRunLemmas.{lines_kept}
use Rattle.iref_tool.proofs.lines.LinesTakesLines.make_room.Goals as goal

pub returns-clause-no_line : goal.returns-clause-no_line
returns-clause-no_line g c = lines_kept g.W.Write.contents _ _ refl refl refl

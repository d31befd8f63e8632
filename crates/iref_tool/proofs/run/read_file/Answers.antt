use Rattle.std.proofs.lemmas.Result.{on_ok_weaker}
use Rattle.iref_tool.proofs.StreamLemmas.{file_given, holds_if_well}
use Rattle.iref_tool.proofs.run.read_file.Goals as goal

pub returns-clause-lines : goal.returns-clause-lines
returns-clause-lines g c =
    file_given g.T.TakesLines.given g.met.T.TakesLines.given_more _ _ _ c.make_room.ensures.no_line
    c.each_line_of-read.result c.status_of_read.result c.status_of_read.ensures c.each_line_of-read.ensures.lines c.each_line_of-read.ensures.cut

pub returns-clause-settled : goal.returns-clause-settled
returns-clause-settled g c =
    holds_if_well _ c.each_line_of-read.result c.status_of_read.result c.status_of_read.ensures
    (on_ok_weaker c.each_line_of-read.result c.make_room.ensures.settled c.each_line_of-read.ensures.settled)

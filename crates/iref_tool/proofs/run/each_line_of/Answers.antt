use Rattle.iref_tool.proofs.StreamLemmas.{nothing_given, on_read_error}
use Rattle.iref_tool.proofs.run.each_line_of.Goals as goal

pub returns-in_err-admit-clause-cut : goal.returns-in_err-admit-clause-cut
returns-in_err-admit-clause-cut g c = on_read_error c.from_residual.result (nothing_given (g.met.T.TakesLines.given_none _))

pub returns-in_err-open-clause-cut : goal.returns-in_err-open-clause-cut
returns-in_err-open-clause-cut g c = on_read_error c.from_residual-in_err-open.result (nothing_given (g.met.T.TakesLines.given_none _))

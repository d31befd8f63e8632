use Rattle.iref_tool.proofs.StreamLemmas.{HasRead}
use Rattle.iref_tool.proofs.input.each_line.Given as goal

abbrev pub invariant-loop-reads : goal.invariant-loop-reads
invariant-loop-reads g l = record {
  read : HasRead g.T.TakesLines.given (g.R.Read.remaining l.initial.reader) (g.R.Read.remaining l.reader) l.begun l.initial.to l.to;
  settled : g.T.TakesLines.is_settled l.initial.to → g.T.TakesLines.is_settled l.to;
}

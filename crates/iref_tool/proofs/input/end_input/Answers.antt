use Rattle.std.proofs.lemmas.Result.{on_ok_weaker}
use Rattle.iref_tool.proofs.StreamLemmas.{all_given, last_given}
use Rattle.iref_tool.proofs.input.end_input.Goals as goal

pub returns-then-is_empty-clause-lines : goal.returns-then-is_empty-clause-lines
returns-then-is_empty-clause-lines g c =
    on_ok_weaker c.pause.result (λ e seen first r. all_given g.T.TakesLines.given g.met.T.TakesLines.given_more seen _ first _ _ (c.is_empty.ensures.nothing c.if-is_empty.true) e r) c.pause.ensures.no_line

pub returns-clause-lines : goal.returns-clause-lines
returns-clause-lines g c =
    on_ok_weaker c.pause-2.result (λ e seen first r. last_given g.T.TakesLines.given g.met.T.TakesLines.given_more seen _ first _ _ _ (c.is_empty.ensures.some c.if-is_empty.false) c.in_ok-end_line.ensures.line e r) c.pause-2.ensures.no_line

use Rattle.std.proofs.Common.{◌++◌, [], append-nil, sym, ap, ◌∙◌}
use Rattle.iref_batch.specs.Lines.{lines_of}
use Rattle.iref_batch.proofs.{Writing.{on_err}, EndLemmas.{all_answered, all_same, begun_same, breaks_at_flush}}
use Rattle.iref_batch.proofs.lines.Lines.end.Goals as goal

pub returns-clause-ok : goal.returns-clause-ok
returns-clause-ok g c = λ seen before s.
    let r = c.in_ok-end_last.ensures.ok seen before s in
    all_same r.0 seen before _ r.1
    (all_answered r.0 before _ _ _ c.in_ok-end_last.ensures.begun c.in_ok-flush.ensures.ok r.2)

pub returns-in_err-flush-clause-cut : goal.returns-in_err-flush-clause-cut
returns-in_err-flush-clause-cut g c =
    on_err c.from_residual-in_err-flush.result (λ seen before s.
    let r = c.in_ok-end_last.ensures.ok seen before s in
    begun_same (r.0 ++ []) (seen ++ []) before _ (ap lines_of (append-nil r.0) ∙ r.1 ∙ sym (ap lines_of (append-nil seen)))
    (breaks_at_flush [] _ _ _ c.in_err-flush.ensures.cut r.0 before r.2))

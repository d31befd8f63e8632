use Rattle.std.proofs.{Common.{[], refl}, lemmas.Result.{on_ok_weaker}}
use Rattle.iref_tool.specs.declared.jobs.LineFault.TheVariants.{Memory}
use Rattle.iref_tool.proofs.JobRunLemmas.{line_refused}
use Rattle.iref_tool.proofs.texts.TextsTakesLines.refuse.Goals as goal

pub returns-clause-line : goal.returns-clause-line
returns-clause-line g c =
    let old = c.args.self.now in
    let now = record old { number = c.saturating_add-self.result } in
    on_ok_weaker c.note.result
    (λ said. line_refused g.W.Write.contents [] Memory old now c.note.new.self refl refl c.saturating_add-self.ensures refl refl refl said g.J.Job.outcome g.J.Job.goes_on c.note.ensures.place c.note.ensures.wrong refl refl c.note.ensures.job)
    c.note.ensures.said

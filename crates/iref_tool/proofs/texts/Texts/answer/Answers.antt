use Rattle.std.proofs.{Common.{◌≡◌, arith, refl}, lemmas.Grind.{common_steps}, lemmas.Result.{on_ok_weaker}}
use Rattle.iref_tool.proofs.JobRunLemmas.{line_answered, line_wrong}
use Rattle.iref_tool.proofs.texts.Texts.answer.Goals as goal

pub returns-in-Ok-clause-done : goal.returns-in-Ok-clause-done
returns-in-Ok-clause-done g c =
    let done = c.in-Ok.ensures.outcome in
    line_answered {new = record c.args.self.now { job = c.answer.new.self; answers = c.answer.new.out; number = c.saturating_add-self.result }} c.args.line.now done.0 done.1 c.in-Ok.ensures.next refl refl c.saturating_add-self.ensures refl refl done.2

pub returns-in-Err-clause-done : goal.returns-in-Err-clause-done
returns-in-Err-clause-done g c =
    let old = c.args.self.now in
    let end = c.in-Err.ensures.outcome in
    let back : c.truncate.new.self.items ≡ old.answers.items = grind (arith, common_steps, end.1.1) in
    let now = record old { job = c.answer.new.self; answers = c.truncate.new.self; number = c.saturating_add-self.result } in
    on_ok_weaker c.note.result
    (λ said. line_wrong g.W.Write.contents c.args.line.now c.in-Err.fault old now c.note.new.self refl refl c.saturating_add-self.ensures refl refl back said g.J.Job.outcome g.J.Job.goes_on c.note.ensures.place c.note.ensures.wrong end.0 (rw c.note.ensures.job c.in-Err.ensures.next))
    c.note.ensures.said

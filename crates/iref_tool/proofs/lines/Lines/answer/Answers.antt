use Rattle.std.proofs.{Common.{[], ◌∷◌, Some, inr, refl}, lemmas.Result.{on_ok_weaker}}
use Rattle.iref_tool.specs.LineRunLaws.{AnswersLines-both}
use Rattle.iref_tool.proofs.LineRunLemmas.{line_waits, lines_kept}
use Rattle.iref_tool.proofs.lines.Lines.answer.Goals as goal

pub returns-in-Ok : goal.returns-in-Ok
returns-in-Ok g c = line_waits g.W.Write.contents c.args.self.now _ c.args.line.now refl refl c.in-Ok.ensures.ok

pub returns-in-Err : goal.returns-in-Err
returns-in-Err g c =
    let old = c.args.self.now in
    let now = record old { asked = c.push_line.new.bytes } in
    on_ok_weaker c.put_line.result
    (λ put. AnswersLines-both g.W.Write.contents old now c.put_line.new.self [] (Some c.args.line.now ∷ [])
    (lines_kept g.W.Write.contents old now refl refl c.in-Err.ensures.err) (put (Some c.args.line.now) (λ _. inr refl)))
    c.put_line.ensures

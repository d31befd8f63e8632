use Rattle.std.proofs.{Common.{[], ◌∷◌, Some, refl}, lemmas.Result.{on_ok_weaker}}
use Rattle.iref_tool.specs.LineRunLaws.{AnswersLines-both}
use Rattle.iref_tool.proofs.LineRunLemmas.{example_reply, lines_kept, reply_gathered}
use Rattle.iref_tool.proofs.lines.Lines.take_example.Goals as goal

pub returns-in_default : goal.returns-in_default
returns-in_default g c =
    let line = c.args.line.now in
    let mid = c.settle_asked.new.self in
    let now = record mid { tables = c.answer.new.tables } in
    let both = AnswersLines-both g.W.Write.contents in
    on_ok_weaker c.put_line.result
    (λ put is. both c.args.self.now mid c.put_line.new.self [] (Some line ∷ []) c.in_ok-settle_asked.ensures.lines
    (both mid now c.put_line.new.self [] (Some line ∷ []) (lines_kept g.W.Write.contents mid now refl refl refl) (put (Some line) (example_reply line _ is))))
    c.put_line.ensures

pub returns-in-Ok-push_line : goal.returns-in-Ok-push_line
returns-in-Ok-push_line g c = λ is.
    let line = c.args.line.now in
    let mid = c.settle_asked.new.self in
    let settled = c.in_ok-settle_asked.ensures in
    AnswersLines-both g.W.Write.contents c.args.self.now mid _ [] (Some line ∷ []) settled.lines
    (reply_gathered g.W.Write.contents mid _ settled.asked settled.asked (Some line) c.as_bytes.result.now (example_reply line _ is) refl c.in-Ok-push_line.ensures.ok)

pub returns : goal.returns
returns g c =
    let line = c.args.line.now in
    let mid = c.settle_asked.new.self in
    let now = record mid { tables = c.answer.new.tables; answers = c.push_line.new.bytes } in
    let both = AnswersLines-both g.W.Write.contents in
    on_ok_weaker c.put_line-in-Err.result
    (λ put is. both c.args.self.now mid c.put_line-in-Err.new.self [] (Some line ∷ []) c.in_ok-settle_asked.ensures.lines
    (both mid now c.put_line-in-Err.new.self [] (Some line ∷ []) (lines_kept g.W.Write.contents mid now refl c.in-Err.ensures.err refl) (put (Some line) (example_reply line _ is))))
    c.put_line-in-Err.ensures

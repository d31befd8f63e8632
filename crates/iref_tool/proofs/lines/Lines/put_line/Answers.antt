use Rattle.std.proofs.{Common.{[], ◌∷◌}, lemmas.Result.{on_ok_weaker}}
use Rattle.iref_tool.specs.LineRunLaws.{AnswersLines-both}
use Rattle.iref_tool.proofs.LineRunLemmas.{reply_written}
use Rattle.iref_tool.proofs.lines.Lines.put_line.Goals as goal

pub returns : goal.returns
returns g c =
    let old = c.args.self.now in
    let mid = c.settle.new.self in
    let new = record mid { out = c.put-2.new.self } in
    let settled = c.in_ok-settle.ensures in
    on_ok_weaker c.put-2.result
    (λ end line is. AnswersLines-both g.W.Write.contents old mid new [] (line ∷ []) settled.lines
    (reply_written g.W.Write.contents mid new settled.asked settled.asked line c.args.reply.now is _ settled.answers settled.answers c.in_ok-put.ensures.ok end))
    c.put-2.ensures.ok

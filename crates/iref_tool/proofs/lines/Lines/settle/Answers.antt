use Rattle.std.proofs.Common.{arith, ◌≡◌, [], Some, ap, ◌∙◌, Bor}
use Rattle.std.proofs.lemmas.Grind.{common_steps}
use Rattle.iref.specs.Rules.{Text}
use Rattle.iref_batch.proofs.Writing.{writes_from_appends}
use Rattle.iref_tool.proofs.LineRunLemmas.{answers_settled, lines_settled}
use Rattle.iref_tool.proofs.lines.Lines.settle.Goals as goal

pub returns-then-is_empty-clause-lines : goal.returns-then-is_empty-clause-lines
returns-then-is_empty-clause-lines g c =
    let all = c.as_slice.ensures.value in
    let put = c.in_ok-put.ensures.ok in
    let none : c.args.self.now.asked.items ≡ [] = grind (arith, common_steps) in
    answers_settled g.W.Write.contents c.args.self.now _ none none c.empty.ensures (writes_from_appends _ _ _ (rw all at put))

pub returns-clause-lines : goal.returns-clause-lines
returns-clause-lines g c =
    let all = c.as_slice.ensures.value in
    let put = c.in_ok-put.ensures.ok in
    let asked : Some c.new-asked.result.inner.now ≡ Some c.args.self.now.asked.items = ap (λ (s : Bor Text). Some s.now) c.new-asked.ensures.same ∙ ap (λ t. Some t) c.as_slice-2.ensures.value in
    lines_settled g.W.Write.contents c.args.self.now _ _ (writes_from_appends _ _ _ (rw all at put))
    (λ before known. (c.in-Ok.ensures.ok c.args.self.now.asked.items before asked known).1) c.empty-2.ensures c.empty.ensures

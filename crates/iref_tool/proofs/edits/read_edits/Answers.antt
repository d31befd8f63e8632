use Rattle.std.proofs.{Common.{rules, arith, ◌≡◌, ◌∷◌, ◌++◌, [], Ok, ap, sym, ◌∙◌, map}, lemmas.List.{map-append}}
use Rattle.iref.specs.EditSteps.{edit_step}
use Rattle.iref_tool.specs.{EditWords.{with_edit}, Replies.{and_then}}
use Rattle.iref_tool.proofs.{ReplyLemmas.{stops, tells}, WordListLemmas.{all_read, one_more, stopped}}
use Rattle.iref_tool.proofs.edits.read_edits.Goals as goal

pub loop-word-preserved : goal.loop-word-preserved
loop-word-preserved c =
    let edits = c.loop-word.edits.items in
    let pushed : c.push.new.self.items ≡ edits ++ c.in_ok-read_edit.field-0 ∷ [] = grind (arith, c.push.ensures, c.is_err.ensures, c.if-is_err.false) in
    let kept = ap (map edit_step) pushed ∙ map-append edit_step edits _ in
    one_more with_edit [] _ c.args.words.now c.loop-word.word-index c.loop-word.invariant _ (search rules) _
    (ap (and_then (λ step. Ok (map edit_step edits ++ step ∷ []))) c.in_ok-read_edit.ensures ∙ ap Ok (sym kept))

pub returns-in_err-read_edit : goal.returns-in_err-read_edit
returns-in_err-read_edit c =
    let edits = map edit_step c.loop-word.edits.items in
    stops _ _ _ _ _ (search rules)
    (λ wrong e. stopped with_edit [] _ c.args.words.now c.loop-word.word-index c.loop-word.invariant _ (search rules) wrong (ap (and_then (λ step. Ok (edits ++ step ∷ []))) e))
    (tells _ _ c.in_err-read_edit.ensures)

pub returns : goal.returns
returns c = all_read with_edit [] _ c.args.words.now c.loop-word.word-index c.loop-word.invariant (search rules)

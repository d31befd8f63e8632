use Rattle.std.proofs.{Common.{◌≡◌, ◌∷◌, ◌++◌, [], ◌∙◌, ap, arith, map}, lemmas.List.{map-append}}
use Rattle.iref.specs.EditSteps.{edit_step}
use Rattle.iref_batch.proofs.EditFieldLemmas.{reading_more, reading_invalid}
use Rattle.iref_batch.proofs.answers.edit.read_edits.Goals as goal

pub loop-field-preserved-else-is_err : goal.loop-field-preserved-else-is_err
loop-field-preserved-else-is_err c =
    let pushed : c.push.new.self.items ≡ c.loop-field.edits.items ++ c.in-Ok.edit ∷ [] = grind (arith, c.push.ensures, c.is_err.ensures, c.if-is_err.false) in
    let kept = ap (map edit_step) pushed ∙ map-append edit_step c.loop-field.edits.items _ in
    reading_more _ _ _ _ _ _ _ (edit_step c.in-Ok.edit) c.in-Some.ensures c.in-Ok.ensures.0 c.in-Ok.ensures.1 kept c.loop-field.invariant

pub loop-field-preserved : goal.loop-field-preserved
loop-field-preserved c =
    reading_invalid _ _ _ _ _ _ c.in-Some.ensures (rw c.in-Err-Invalid.field-0-is at c.in-Err-Invalid.ensures) c.loop-field.invariant

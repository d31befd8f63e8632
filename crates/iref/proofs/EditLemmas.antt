-- What an edit by an editor leaves is the step of the whole reference.
use Rattle.std.proofs.Common.{◌≡◌, true, Result, Ok, Err, OnErr, sym, ap, ◌∙◌}
use Rattle.iref_grammar.specs.{declared.context.PathContext.{PathContext}, Characters.{CharTests, AreAboveAscii}}
use Rattle.iref_grammar.specs.{Rules.{Text}, PathValue.{PathValue}, ComponentOffsets.{offsets_of}}
use Rattle.iref_grammar.specs.Reference.{context_of, is_readable, is_reference, read_reference}
use Rattle.iref_grammar.specs.{ComponentSteps.{with_path_step}, Edits.{EditStep, edited}}
use Rattle.iref_reference_text.proofs.EditLemmas.{readable_of}
use Rattle.iref_component.specs.{declared.path_mut.PathMut.{PathMut}, PathEdits.{edited_bytes, IsEditorOf, Edits}}
use Rattle.iref_reference.proofs.PathStepLemmas.{path_step}
use Rattle.iref.specs.EditAnswers.{DoesEdit, may_take_memory}

-- the edit of the path, done by its editor
pub path_edit_done : {C : _} {T : _} {c : _} {t : _} {old : PathMut C T c t} {text after : Text} {E : Type 0} (new : PathMut C T c t) (set : CharTests) → AreAboveAscii set → (edit : EditStep) (step : PathContext → PathValue → PathValue)
    → edited edit (read_reference text) ≡ Ok (with_path_step step (read_reference text)) → is_reference set text ≡ true
    → (is_readable set (read_reference text) ≡ true → is_readable set (with_path_step step (read_reference text)) ≡ true)
    → IsEditorOf old text (context_of (read_reference text)) (offsets_of text).path.start (offsets_of text).path.end → after ≡ edited_bytes new
    → (result : Result (Unit {0}) E) → Edits step old new result → OnErr result ((after ≡ text) × (may_take_memory edit ≡ true)) → DoesEdit edit text after result
path_edit_done {text = text} new set above edit step e h readable of same (Ok done) edits failed =
    let read = (path_step set above step h (readable (readable_of set text h)) of edits.outcome).1 in
    (e ∙ ap Ok (sym (ap read_reference same ∙ read)), tt)
path_edit_done new set above edit step e h readable of same (Err error) edits failed = (tt, failed)

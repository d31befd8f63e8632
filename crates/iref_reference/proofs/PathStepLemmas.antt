-- A reference after a step of its path, by an editor of that path.
use Rattle.std.proofs.{lemmas.Grind.{common_steps}, Common.{◌≡◌, true, arith}}
use Rattle.iref_grammar.specs.{declared.context.PathContext.{PathContext}, Characters.{CharTests, AreAboveAscii}}
use Rattle.iref_grammar.specs.{Rules.{Text}, PathValue.{PathValue}, ComponentOffsets.{offsets_of}}
use Rattle.iref_grammar.specs.Reference.{context_of, is_readable, is_reference, read_reference}
use Rattle.iref_grammar.proofs.{RangeLemmas.{path_range}, ReadableLemmas.{readable_read}}
use Rattle.iref_grammar.specs.ComponentSteps.{with_path_step}
use Rattle.iref_component.specs.declared.path_mut.PathMut.{PathMut}
use Rattle.iref_component.specs.PathEdits.{edited_bytes, path_mut_context, path_mut_value, IsEditorOf, BecomesPath}
use Rattle.iref_reference_text.proofs.{EditLemmas.{path_replaced}, PathRangeLemmas.{path_stands}}
use Rattle.iref_reference_text.specs.Steps.{IsStep}

pub path_step : {C : _} {T : _} {c : _} {t : _} {old new : PathMut C T c t} {text : Text} (set : CharTests) → AreAboveAscii set → (step : PathContext → PathValue → PathValue)
    → is_reference set text ≡ true → is_readable set (with_path_step step (read_reference text)) ≡ true
    → IsEditorOf old text (context_of (read_reference text)) (offsets_of text).path.start (offsets_of text).path.end
    → BecomesPath old new (step (path_mut_context old) (path_mut_value old)) → IsStep (with_path_step step) text (edited_bytes new)
path_step {text = text} set above step h readable of e =
    grind (arith, common_steps, path_range text, path_stands set above text h, path_replaced text, readable_read set above)

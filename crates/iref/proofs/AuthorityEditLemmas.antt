-- What an edit by an editor of the authority leaves is the step of the whole reference.
use Rattle.std.proofs.Common.{◌≡◌, true, Result, Ok, Err, OnErr, refl, sym, ap, ◌∙◌, Option, Some, None, is_some, option_map, if◌then◌else◌}
use Rattle.iref_grammar.specs.{Characters.{CharTests, AreAboveAscii}, Rules.{Text}, Tests.{none_or}}
use Rattle.iref_grammar.specs.Authority.{AuthorityValue, read_authority, is_authority, has_authority_parts}
use Rattle.iref_grammar.specs.{ComponentOffsets.{offsets_of}, Reference.{is_readable, is_reference, read_reference}}
use Rattle.iref_component.specs.{declared.rule_text.RuleText.{RuleText}, Components.{text_of}}
use Rattle.iref_component.specs.declared.authority_mut.AuthorityMut.{AuthorityMut}
use Rattle.iref_component.specs.AuthorityEdits.{edited_bytes, Edits, IsEditorAt}
use Rattle.iref_grammar.specs.ComponentSteps.{with_authority_step}
use Rattle.iref_grammar.specs.Edits.{EditStep, NoAuthority, edited, with_authority_part}
use Rattle.iref_reference_text.proofs.EditLemmas.{readable_of}
use Rattle.iref_reference.proofs.AuthorityStepLemmas.{authority_step}
use Rattle.iref.specs.EditAnswers.{DoesEdit, may_take_memory}

-- an optional text that is given by a borrowed value is in the rule
pub view_in_rule : {S R C K s r k c : _} (o : Option (RuleText S R C K s r k c)) → none_or (r.test c.tests) (option_map text_of o) ≡ true
view_in_rule None = refl
view_in_rule (Some view) = view.in_rule

pub authority_in_rule : (set : CharTests) (text : Text) → is_authority set text ≡ true → has_authority_parts set (read_authority text) ≡ true
unfolding is_authority
authority_in_rule set text h = h

-- the edit of a part of the authority, done by its editor
pub authority_edit_done : {C T c H : _} {text after : Text} {E : Type 0} (old new : AuthorityMut C T c H) (set : CharTests) → AreAboveAscii set → (edit : EditStep) (step : AuthorityValue → AuthorityValue)
    → edited edit (read_reference text) ≡ with_authority_part step (read_reference text) → is_some (read_reference text).authority ≡ true → is_reference set text ≡ true
    → (is_readable set (read_reference text) ≡ true → is_readable set (with_authority_step step (read_reference text)) ≡ true)
    → IsEditorAt old text (offsets_of text).authority → after ≡ edited_bytes new
    → (result : Result (Unit {0}) E) → Edits step old new result → OnErr result ((after ≡ text) × (may_take_memory edit ≡ true)) → DoesEdit edit text after result
authority_edit_done {text = text} old new set above edit step e has h readable of same (Ok done) edits failed =
    let read = (authority_step set above step h (readable (readable_of set text h)) of edits.outcome).1 in
    (e ∙ (λ i. if has i then Ok (with_authority_step step (read_reference text)) else Err NoAuthority) ∙ ap Ok (sym (ap read_reference same ∙ read)), tt)
authority_edit_done old new set above edit step e has h readable of same (Err error) edits failed = (tt, failed)

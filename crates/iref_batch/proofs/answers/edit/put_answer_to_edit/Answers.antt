use Rattle.std.proofs.Common.{map, subst, sym, ◌∙◌}
use Rattle.std.specs.{Option.{option_copied}, List.{list_all}}
use Rattle.iref.specs.{Characters.{iri_chars}, Rules.{Text}, EditSteps.{edit_step}}
use Rattle.iref.specs.References.{reference_buf_text, reference_buf_value}
use Rattle.iref_batch.specs.{Lines.{Edit, is_valid_edit}, EditFields.{edits_read}, Fields.{fields_of}, Gathering.{Puts}}
use Rattle.iref_batch.proofs.AnswerLemmas.{refusal}
use Rattle.iref_batch.proofs.EditAnswerLemmas.{unfit_edits, no_edited_reply, edited_reply, refused_reply}
use Rattle.iref_batch.proofs.answers.edit.put_answer_to_edit.Goals as goal

pub returns-in-Err : goal.returns-in-Err
returns-in-Err c =
    let text = c.args.text.now in
    let read = edits_read (fields_of (option_copied c.args.fields)) in
    c.put_refused.ensures _ (refusal (list_all (is_valid_edit iri_chars)) (Edit text) read c.in-Err.error (unfit_edits text) c.in-Err.ensures)

pub returns-in_default : goal.returns-in_default
returns-in_default c =
    let read = edits_read (fields_of (option_copied c.args.fields)) in
    subst (λ (reply : Text). Puts reply c.args.out.now.items c.put_text.new.out.items c.put_text.result)
    (sym (no_edited_reply c.args.text.now c.in_ok-bytes.bytes.items read (map edit_step c.read_edits.new.edits.items) c.in-Ok.ensures.0 c.in_ok-bytes.ensures c.in_default.ensures.0)) c.put_text.ensures

pub returns-in-Ok-apply_all : goal.returns-in-Ok-apply_all
returns-in-Ok-apply_all c =
    let read = edits_read (fields_of (option_copied c.args.fields)) in
    let steps = map edit_step c.read_edits.new.edits.items in
    let old = reference_buf_text c.in-Ok-from_bytes.reference in
    let done = rw c.as_slice.ensures at c.in-Ok-apply_all.ensures.0 in
    subst (λ (reply : Text). Puts reply c.args.out.now.items c.put_answered.new.out.items c.put_answered.result)
    (sym (edited_reply c.args.text.now c.in_ok-bytes.bytes.items old read c.in-Ok-from_bytes.ensures.0 c.in_ok-bytes.ensures c.in-Ok-from_bytes.ensures.1 c.as_bytes.result.now steps (reference_buf_value c.apply_all.new.reference) c.in-Ok.ensures.0 c.in-Ok.ensures.1 done (c.as_bytes.ensures ∙ c.in-Ok-apply_all.ensures.1)))
    c.put_answered.ensures

pub returns-in-Err-default-NoAuthority : goal.returns-in-Err-default-NoAuthority
returns-in-Err-default-NoAuthority c =
    let read = edits_read (fields_of (option_copied c.args.fields)) in
    let old = reference_buf_text c.in-Ok-from_bytes.reference in
    let refused = rw (c.as_slice.ensures, c.in-Err-default-NoAuthority.field-0-1-is) at c.in-Err-default-NoAuthority.ensures.0 in
    subst (λ (reply : Text). Puts reply c.args.out.now.items c.put_text-in-Err-default-NoAuthority.new.out.items c.put_text-in-Err-default-NoAuthority.result)
    (sym (refused_reply c.args.text.now c.in_ok-bytes.bytes.items old read c.in-Ok-from_bytes.ensures.0 c.in_ok-bytes.ensures c.in-Ok-from_bytes.ensures.1 (map edit_step c.read_edits.new.edits.items) _ c.in-Ok.ensures.0 c.in-Ok.ensures.1 refused))
    c.put_text-in-Err-default-NoAuthority.ensures

pub returns-in-Err-default-SchemeNeeded : goal.returns-in-Err-default-SchemeNeeded
returns-in-Err-default-SchemeNeeded c =
    let read = edits_read (fields_of (option_copied c.args.fields)) in
    let old = reference_buf_text c.in-Ok-from_bytes.reference in
    let refused = rw (c.as_slice.ensures, c.in-Err-default-SchemeNeeded.field-0-1-is) at c.in-Err-default-SchemeNeeded.ensures.0 in
    subst (λ (reply : Text). Puts reply c.args.out.now.items c.put_text-in-Err-default-SchemeNeeded.new.out.items c.put_text-in-Err-default-SchemeNeeded.result)
    (sym (refused_reply c.args.text.now c.in_ok-bytes.bytes.items old read c.in-Ok-from_bytes.ensures.0 c.in_ok-bytes.ensures c.in-Ok-from_bytes.ensures.1 (map edit_step c.read_edits.new.edits.items) _ c.in-Ok.ensures.0 c.in-Ok.ensures.1 refused))
    c.put_text-in-Err-default-SchemeNeeded.ensures

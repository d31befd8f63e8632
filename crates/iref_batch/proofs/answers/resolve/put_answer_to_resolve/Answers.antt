use Rattle.iref_batch.proofs.AnswerLemmas.{no_base_to_resolve, no_reference_to_resolve, resolve_answer}
use Rattle.iref.specs.Parts.{uri_parts_value, uri_ref_parts_value}
use Rattle.iref_batch.proofs.answers.resolve.put_answer_to_resolve.Goals as goal

pub returns-in_default : goal.returns-in_default
returns-in_default c =
    rw (no_reference_to_resolve c.args.reference.now c.args.base.now c.in_default.ensures.parsed.0) c.put_text.ensures

pub returns-in_default-from_bytes : goal.returns-in_default-from_bytes
returns-in_default-from_bytes c =
    rw (no_base_to_resolve c.args.reference.now c.args.base.now c.in_default-from_bytes.ensures.parsed.0) c.put_text-in_default-from_bytes.ensures

pub returns : goal.returns
returns c =
    let reference = c.in-Ok.ensures in
    let base = c.in-Ok-from_bytes.ensures in
    rw (
    resolve_answer c.args.reference.now c.args.base.now c.in-Ok-resolved.answer (uri_ref_parts_value c.in-Ok.reference) (uri_parts_value c.in-Ok-from_bytes.base)
    reference.parsed.0 base.parsed.0 reference.value base.value c.in-Ok-resolved.ensures.0
    ) c.put_composed.ensures

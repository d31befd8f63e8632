use Rattle.iref_batch.proofs.AnswerLemmas.{no_base_to_lead_from, no_target_to_lead_to, relative_answer}
use Rattle.iref.specs.Parts.{uri_ref_parts_value}
use Rattle.iref_batch.proofs.answers.resolve.put_answer_to_relative.Goals as goal

pub returns-in_default : goal.returns-in_default
returns-in_default c =
    rw (no_target_to_lead_to c.args.target.now c.args.base.now c.in_default.ensures.parsed.0) c.put_text.ensures

pub returns-in_default-from_bytes : goal.returns-in_default-from_bytes
returns-in_default-from_bytes c =
    rw (no_base_to_lead_from c.args.target.now c.args.base.now c.in_default-from_bytes.ensures.parsed.0) c.put_text-in_default-from_bytes.ensures

pub returns : goal.returns
returns c =
    let target = c.in-Ok.ensures in
    let base = c.in-Ok-from_bytes.ensures in
    rw (
    relative_answer c.args.target.now c.args.base.now c.in-Ok-relative_to.answer (uri_ref_parts_value c.in-Ok.target) (uri_ref_parts_value c.in-Ok-from_bytes.base)
    target.parsed.0 base.parsed.0 target.value base.value c.in-Ok-relative_to.ensures.0
    ) c.put_composed.ensures

use Rattle.iref_batch.proofs.AnswerLemmas.{parts_answer, no_parts_answer}
use Rattle.iref.specs.Parts.{uri_ref_part_texts}
use Rattle.iref_batch.proofs.answers.put_answer_to_parts.Goals as goal

pub returns : goal.returns
returns c =
    let text = c.args.text.now in
    rw (parts_answer text (uri_ref_part_texts c.in-Ok.parts) c.in-Ok.ensures.parsed.0 c.in-Ok.ensures.parsed.1) c.put_parts.ensures

pub returns-in_default : goal.returns-in_default
returns-in_default c =
    let text = c.args.text.now in
    rw (no_parts_answer text c.in_default.ensures.parsed.0) c.put_text.ensures

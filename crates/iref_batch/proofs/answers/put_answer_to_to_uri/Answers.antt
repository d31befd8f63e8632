use Rattle.iref.specs.References.{reference_text}
use Rattle.iref_batch.proofs.AnswerLemmas.{to_uri_answer, no_to_uri_answer}
use Rattle.iref_batch.proofs.answers.put_answer_to_to_uri.Goals as goal

pub returns-in_default : goal.returns-in_default
returns-in_default c = rw (no_to_uri_answer c.args.text.now c.in_default.ensures.0) c.put_text.ensures

pub returns : goal.returns
returns c =
    rw (
      to_uri_answer c.args.text.now (reference_text c.in-Ok.reference) _ c.in-Ok.ensures.0
          c.in-Ok.ensures.1 c.in-Ok-to_uri_ref.ensures.0.0,
      ← c.as_bytes.ensures,
    ) c.put_answered.ensures

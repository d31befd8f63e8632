use Rattle.std.proofs.Common.{◌∙◌}
use Rattle.iref_reference.specs.References.{reference_text}
use Rattle.iref_tool.proofs.ReplyLemmas.{resolved_said}
use Rattle.iref_tool.proofs.question.resolved.Goals as goal

pub returns : goal.returns
returns c = resolved_said c.args.word.now c.args.base.now (reference_text c.in_ok-reference.reference) (reference_text c.in_ok-iri.field-0) _ c.in_ok-reference.ensures.1 c.in_ok-iri.ensures.1 c.in_ok-reference.ensures.0 c.in_ok-iri.ensures.0 (c.into_string.ensures.text ∙ c.in_ok-resolved.ensures.0)

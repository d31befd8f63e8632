use Rattle.std.proofs.Common.{rules, ◌≡◌, Some, string_bytes}
use Rattle.iref.specs.{Reference.{read_reference}, Relativized.{relativized}}
use Rattle.iref_reference.specs.References.{reference_text, reference_value}
use Rattle.iref_tool.proofs.ReplyLemmas.{relativized_said}
use Rattle.iref_tool.proofs.question.relativized.Goals as goal

pub returns-in-Some : goal.returns-in-Some
returns-in-Some c =
    let found : Some (read_reference (string_bytes c.into_string.result)) ≡ relativized (reference_value c.in_ok-iri.field-0) (reference_value c.in_ok-from.from) = search rules in
    relativized_said c.args.target.now c.args.base.now (reference_text c.in_ok-iri.field-0) (reference_text c.in_ok-from.from) _ c.in_ok-iri.ensures.1 c.in_ok-from.ensures.1 c.in_ok-iri.ensures.0 c.in_ok-from.ensures.0 found

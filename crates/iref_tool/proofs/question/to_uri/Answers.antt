use Rattle.std.proofs.Common.{codes, ◌∙◌}
use Rattle.clap.specs.Words.{found_of}
use Rattle.iref_reference.specs.References.{reference_text}
use Rattle.iref_tool.specs.Words.{word}
use Rattle.iref_tool.proofs.ReplyLemmas.{to_uri_said}
use Rattle.iref_tool.proofs.question.to_uri.Goals as goal

pub returns : goal.returns
returns c =
    to_uri_said (word (found_of c.args.matches.now) (codes "IRI")) (reference_text c.in_ok-reference.reference) _ c.in_ok-reference.ensures.1 c.in_ok-reference.ensures.0 (c.into_string.ensures.text ∙ c.in_ok-to_uri_ref.ensures.0.0)

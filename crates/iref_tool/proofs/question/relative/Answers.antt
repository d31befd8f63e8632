use Rattle.std.proofs.Common.{codes, ◌∙◌}
use Rattle.clap.specs.Words.{found_of}
use Rattle.iref_reference.specs.References.{reference_text}
use Rattle.iref_tool.specs.Words.{word}
use Rattle.iref_tool.proofs.ReplyLemmas.{relative_said}
use Rattle.iref_tool.proofs.question.relative.Goals as goal

pub returns : goal.returns
returns c =
    let found = found_of c.args.matches.now in
    relative_said (word found (codes "TARGET")) (word found (codes "BASE")) (reference_text c.in_ok-target.target) (reference_text c.in_ok-base.base) _ c.in_ok-target.ensures.1 c.in_ok-base.ensures.1
    c.in_ok-target.ensures.0 c.in_ok-base.ensures.0 (c.into_string.ensures.text ∙ c.in_ok-relative_to.ensures.text.0)

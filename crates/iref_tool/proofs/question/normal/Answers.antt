use Rattle.std.proofs.{Common.{◌∙◌}}
use Rattle.iref.specs.Components.{text_of}
use Rattle.iref_tool.proofs.ReplyLemmas.{normal_said}
use Rattle.iref_tool.proofs.question.normal.Goals as goal

pub returns : goal.returns
returns c = normal_said c.args.word.now (text_of c.in_ok-path.path) _ c.in_ok-path.ensures.1 c.in_ok-path.ensures.0 (c.into_string.ensures.text ∙ c.in_ok-normalized.ensures.text)

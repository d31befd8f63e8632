use Rattle.std.proofs.Common.{◌∙◌}
use Rattle.iref_reference_text.proofs.ShortestTextLemmas.{same-copied}
use Rattle.iref_reference_text.proofs.relativized.same_part.Goals as goal

pub returns : goal.returns
returns c = c.eq.ensures ∙ same-copied c.args.part c.args.other

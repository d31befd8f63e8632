use Rattle.iref_path.proofs.SlashLemmas.{pieces-first}
use Rattle.iref_path.proofs.segments.first_segment.Goals as goal

pub returns : goal.returns
returns c = pieces-first c.args.text.now c.cut.result.0.now c.cut.result.1 c.cut.ensures.before c.cut.ensures.after

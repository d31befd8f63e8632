use Rattle.std.proofs.Common.{arith}
use Rattle.iref_path.proofs.SlashLemmas.{pieces-first}
use Rattle.iref_path.proofs.forward.behind_dot_segment.Goals as goal

pub returns : goal.returns
returns c = λ s rest e.
    let cut = pieces-first c.args.text.now c.cut_bytes.result.0.now c.cut_bytes.result.1 c.cut_bytes.ensures.before c.cut_bytes.ensures.after in
    grind arith

use Rattle.std.proofs.{Common.{sym, ◌∙◌, arith}, lemmas.Grind.{common_steps}}
use Rattle.iref_fault.proofs.BracketLemmas.{last-after, last-none}
use Rattle.iref_fault.proofs.pieces.after_last.Goals as goal

pub loop-after-preserved : goal.loop-after-preserved
loop-after-preserved c = grind (arith, common_steps, last-after)

pub returns : goal.returns
returns c = last-none c.loop-after.rest.now (sym c.in_default.ensures.after) ∙ sym c.loop-after.invariant.1

use Rattle.std.proofs.Common.{◌-◌, length}
use Rattle.iref_parse.proofs.PlainLemmas.{IsPlainFront}
use Rattle.iref_parse.proofs.plain.few_plain_first.Given as goal

abbrev pub invariant-loop-at : goal.invariant-loop-at
invariant-loop-at l = IsPlainFront l.groups l.bytes l.at

abbrev pub decreases-loop-at : goal.decreases-loop-at
decreases-loop-at l = length l.bytes - l.at

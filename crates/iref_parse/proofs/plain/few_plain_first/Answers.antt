use Rattle.std.proofs.Common.{arith, sym, ◌∙◌}
use Rattle.iref_parse.proofs.PlainLemmas.{IsPlainFront-more, plain_front_is}
use Rattle.iref_parse.proofs.plain.few_plain_first.Goals as goal

pub loop-at-preserved : goal.loop-at-preserved
loop-at-preserved c = IsPlainFront-more c.args.groups.now c.args.bytes.now c.loop-at.at c.loop-at.invariant (omega arith) (sym c.is_plain_byte.ensures ∙ c.if-is_plain_byte.true)

pub returns-else-is_plain_byte : goal.returns-else-is_plain_byte
returns-else-is_plain_byte c = plain_front_is c.args.groups.now c.args.bytes.now c.loop-at.at c.loop-at.invariant (λ l. sym c.is_plain_byte.ensures ∙ c.if-is_plain_byte.false)

pub returns-after-loop-at : goal.returns-after-loop-at
returns-after-loop-at c = plain_front_is c.args.groups.now c.args.bytes.now c.loop-at.at c.loop-at.invariant (λ l. absurd (omega arith))

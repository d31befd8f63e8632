use Rattle.std.proofs.Common.{arith}
use Rattle.iref_parse.proofs.PositionLemmas.{position_from_clear, marked_as_first, marked_as_second}
use Rattle.iref_parse.proofs.position.position_near.Goals as goal

pub returns-else-bytes-at : goal.returns-else-bytes-at
returns-else-bytes-at c =
    position_from_clear c.args.first c.args.second c.args.bytes.now c.loop-at.at c.loop-at.invariant
    (λ _. marked_as_first c.args.first c.args.second c.args.bytes.now c.loop-at.at c.if-bytes-at.false)

pub returns-else-bytes-at-2 : goal.returns-else-bytes-at-2
returns-else-bytes-at-2 c =
    position_from_clear c.args.first c.args.second c.args.bytes.now c.loop-at.at c.loop-at.invariant
    (λ _. marked_as_second c.args.first c.args.second c.args.bytes.now c.loop-at.at c.if-bytes-at-2.false)

pub returns-after-loop-at : goal.returns-after-loop-at
returns-after-loop-at c =
    position_from_clear c.args.first c.args.second c.args.bytes.now c.loop-at.at c.loop-at.invariant (λ l. absurd (omega arith))

use Rattle.std.proofs.Common.{◌≡◌, ◌+◌, length, arith, subst}
use Rattle.iref_parse.proofs.{PairLemmas.{pairs_at, unmarked_pair}, PositionLemmas.{IsClearFront, IsClearFront-more}}
use Rattle.iref_parse.proofs.dots.position_of_slash_dot.Goals as goal

pub loop-at-preserved : goal.loop-at-preserved
loop-at-preserved c =
    let path = c.args.path.now in
    let first = c.common_lanes-lane.ensures in
    let lane = c.common_lanes-lane.result in
    let whole : c.loop-at.at + lane ≡ c.loop-at.at + 16 = omega (arith, first.within) in
    subst (IsClearFront (pairs_at 0x2F 0x2E path) (length path)) whole
    (IsClearFront-more (pairs_at 0x2F 0x2E path) (length path) c.loop-at.at c.loop-at.invariant c.pairs.result lane (omega arith) c.pairs.ensures first)

pub returns-then-lane-lt16-clause-none_before : goal.returns-then-lane-lt16-clause-none_before
returns-then-lane-lt16-clause-none_before c =
    let path = c.args.path.now in
    let front = IsClearFront-more (pairs_at 0x2F 0x2E path) (length path) c.loop-at.at c.loop-at.invariant c.pairs.result c.common_lanes-lane.result (omega arith) c.pairs.ensures c.common_lanes-lane.ensures in
    λ k below. unmarked_pair 0x2F 0x2E path k (front.each k below)

use Rattle.std.proofs.Common.{◌-◌, length, arith}
use Rattle.iref_parse.proofs.{PairLemmas.{pairs_at, pairs_found, pairs_from_end}, SeenLemmas.{Seen-none, Seen-more}}
use Rattle.iref_parse.proofs.dots.has_pair.Goals as goal

pub loop-at-init : goal.loop-at-init
loop-at-init c =
    let path = c.args.path.now in
    let marks = pairs_at c.args.first c.args.second path in
    (omega arith, Seen-none marks (length path - 1) c.pairs-seen.result (omega arith) (pairs_from_end c.args.first c.args.second path c.pairs-seen.result (omega arith) c.pairs-seen.ensures))

pub loop-at-preserved : goal.loop-at-preserved
loop-at-preserved c =
    let path = c.args.path.now in
    let old = c.loop-at in (
      omega arith,
      Seen-more (pairs_at c.args.first c.args.second path) (length path - 1) old.at old.seen c.pairs.result c.either-seen.result (omega arith) old.invariant.1 c.pairs.ensures c.either-seen.ensures,
    )

pub returns : goal.returns
returns c = pairs_found c.args.first c.args.second c.args.path.now c.loop-at.seen c.loop-at.at (omega arith) c.loop-at.invariant.1 c.is_clear.result c.is_clear.ensures

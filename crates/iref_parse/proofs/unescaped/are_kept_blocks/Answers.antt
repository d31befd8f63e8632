use Rattle.std.proofs.Common.{◌∙◌, get_or, bit_or, arith}
use Rattle.iref_parse.specs.Lanes.{HasLanes}
use Rattle.iref_parse.proofs.KeptBlockLemmas.{KeptTo-none, KeptTo-more, kept_from_lanes, lane_mark}
use Rattle.iref_parse.proofs.unescaped.are_kept_blocks.Goals as goal

pub loop-at-init : goal.loop-at-init
loop-at-init c = (omega arith, omega arith, KeptTo-none c.args.bytes.now)

pub loop-at-preserved : goal.loop-at-preserved
loop-at-preserved c =
    let old = c.loop-at in
    let inv = old.invariant in
    let more = KeptTo-more c.args.bytes.now c.type_inv.bytes old.at old.least old.percent inv.2 c.load-block.result c.equal_to.result c.lesser-least.result c.either-percent.result
    c.load-block.ensures c.equal_to.ensures c.lesser-least.ensures c.either-percent.ensures in
    (omega (arith, inv.1, c.requires), omega (arith, inv.1), more)

pub returns : goal.returns
returns c =
    let old = c.loop-at in
    let marks : HasLanes c.either.result (λ k. lane_mark (get_or old.least k 0) (get_or old.percent k 0)) = record {
      long = c.either.ensures.long;
      each = λ k l. c.either.ensures.each k l ∙ (λ i. bit_or (c.below_two.ensures.each k l i) (get_or old.percent k 0));
    } in
    c.is_clear.ensures ∙ kept_from_lanes c.args.bytes.now c.type_inv.bytes old.at old.least old.percent old.invariant.2 c.either.result (omega (arith, old.invariant.0)) marks

use Rattle.std.proofs.Common.{arith, cond, length, is_eq, sym, ◌≡◌, ◌-◌}
use Rattle.iref_path.specs.NormalItems.{normal_left}
use Rattle.iref_path.proofs.CompareListLemmas.{nothing_compared, one_more}
use Rattle.iref_path.proofs.compare_lists.compare_same_length.Goals as goal

pub loop-item-init : goal.loop-item-init
loop-item-init g c = record {
  compared = nothing_compared g.S.Sameness.same g.S.Sameness.order _ _ c.args.len c.requires.left_len;
  left_len = c.requires.left_len;
  right_len = c.requires.right_len;
  left = c.requires.left;
  right = c.requires.right;
}

pub loop-item-preserved : goal.loop-item-preserved
loop-item-preserved g c =
    let us = normal_left c.next_back.new.self in
    let so_far = c.loop-item.invariant in
    let here = c.compare-here.result in
    let common : c.if-not-is_eq.common ≡ cond (is_eq here) c.loop-item.common (c.loop-item.index - 1) = grind arith in
    let read = one_more g.S.Sameness.same g.S.Sameness.order g.met.S.Sameness.decides _ _ _ _ us _ _ _ _ _ _ here so_far.compared so_far.left_len so_far.right_len c.in-Some.ensures.item c.in-Some-next_back.ensures.item c.compare-here.ensures in
    let index : length us ≡ c.loop-item.index - 1 = omega (arith, read) in
    let right : length (normal_left c.next_back-in-Some.new.self) ≡ c.loop-item.index - 1 = omega (arith, read) in
    record {
      compared = rw (common, sym index, c.then-order.ensures) read.2;
      left_len = index;
      right_len = right;
      left = c.in-Some.ensures.sound;
      right = c.in-Some-next_back.ensures.sound;
    }

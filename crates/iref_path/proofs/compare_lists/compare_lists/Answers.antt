use Rattle.std.proofs.Common.{arith, ap, ◌∙◌, take, length, ◌-◌}
use Rattle.iref_path.specs.NormalItems.{normal_left}
use Rattle.iref_path.proofs.{CompareListLemmas.{common-cut}, OrderLemmas.{order-cut}}
use Rattle.iref_path.proofs.compare_lists.compare_lists.Goals as goal

pub returns : goal.returns
returns g c =
    let xs = normal_left c.args.left in
    let ys = normal_left c.args.right in
    let cut = order-cut g.S.Sameness.order xs ys _ _ _ _ c.len-left_len.ensures c.len-right_len.ensures (c.without_last-left.ensures.items ∙ ap (λ n. take (length xs - n) xs) c.saturating_sub.ensures)
    (c.without_last-right.ensures.items ∙ ap (λ n. take (length ys - n) ys) c.saturating_sub-2.ensures) in
    record { common = grind (arith, common-cut g.S.Sameness.same xs ys); order = grind arith }

use Rattle.std.proofs.Common.{arith}
use Rattle.iref_grammar.specs.NormalReading.{staying_before}
use Rattle.iref_path.specs.{MergedPaths.{merged_list, merged_path}, NormalItems.{normal_left}}
use Rattle.iref_path.proofs.{MergedPathLemmas.{ends-both}, NormalItemsLemmas.{all_last, one_empty, parts-whole}}
use Rattle.iref_path.proofs.normal_items.survey_items.Goals as goal

pub returns-then-is_one_empty-clause-items : goal.returns-then-is_one_empty-clause-items
unfolding normal_left
returns-then-is_one_empty-clause-items c =
    let names = staying_before (merged_list c.args.front c.args.back) 0 in
    let whole = parts-whole (merged_path c.args.absolute c.args.front c.args.back) c.leading_parents-parents.result names c.ends_in_dots-closes.result in
    grind (arith, one_empty c.leading_parents-parents.result names c.ends_in_dots-closes.result, ends-both)

pub returns-clause-items : goal.returns-clause-items
unfolding normal_left
returns-clause-items c =
    let names = staying_before (merged_list c.args.front c.args.back) 0 in
    let whole = parts-whole (merged_path c.args.absolute c.args.front c.args.back) c.leading_parents-parents.result names c.ends_in_dots-closes.result in
    grind (arith, all_last, one_empty c.leading_parents-parents.result names c.ends_in_dots-closes.result, ends-both)

use Rattle.std.proofs.Common.{arith}
use Rattle.iref_path.specs.{MergedPaths.{merged_path}, NormalItems.{normal_left}, MeasuredPaths.{measured_text}}
use Rattle.iref_path.proofs.SpellLemmas.{normalized-spelled}
use Rattle.iref_path.proofs.measured.MeasuredPath.of_segments.Goals as goal

pub returns-clause-text : goal.returns-clause-text
unfolding measured_text
returns-clause-text c =
    let spelled = normalized-spelled c.args.context (merged_path c.args.absolute c.args.front c.args.back) (normal_left c.survey_items-all.result.items) c.survey_items-all.result.size c.survey_items-all.result.first.now
    (grind arith) (grind arith) (grind arith) in
    grind arith

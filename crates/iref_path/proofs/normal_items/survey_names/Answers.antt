use Rattle.std.proofs.Common.{arith}
use Rattle.iref_path.specs.MergedPaths.{merged_list}
use Rattle.iref_path.proofs.{SpellLemmas.{kept_size}, MergedPathLemmas.{size_last}}
use Rattle.iref_path.proofs.normal_items.survey_names.Goals as goal

pub overflow_add-size-in-Some : goal.overflow_add-size-in-Some
overflow_add-size-in-Some c =
    omega (arith, size_last _ _ _ c.in-Some.ensures.name, kept_size (merged_list c.args.front c.args.back))

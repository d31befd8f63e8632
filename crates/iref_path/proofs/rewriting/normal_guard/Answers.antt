use Rattle.std.proofs.Common.{None, length, arith, ap, ◌∙◌}
use Rattle.iref_path.specs.{MergedPaths.{merged_path}, Spelling.{each_closed}}
use Rattle.iref_path.proofs.SpellLemmas.{normal_size, read_size}
use Rattle.iref_path.proofs.rewriting.normal_guard.Goals as goal

pub survey_items-all-requires : goal.survey_items-all-requires
survey_items-all-requires c = omega (arith, read_size c.args.path.now _ c.split_root-absolute.ensures.path)

pub overflow_add-result : goal.overflow_add-result
overflow_add-result c =
    let size = c.survey_items-all.ensures.size ∙ ap (λ list. length (each_closed list)) c.survey_items-all.ensures.items in
    omega (arith, size, read_size c.args.path.now _ c.split_root-absolute.ensures.path, normal_size (merged_path c.split_root-absolute.result.0 None c.split_root-absolute.result.1))

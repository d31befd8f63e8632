use Rattle.std.proofs.Common.{arith, refl}
use Rattle.iref_path.proofs.SpellLemmas.{read_size}
use Rattle.iref_path.proofs.normal_items.NormalItems.new.Goals as goal

pub survey_items-requires : goal.survey_items-requires
survey_items-requires c = omega (arith, read_size c.args.path.now _ c.split_root-absolute.ensures.path)

pub returns-clause-whole : goal.returns-clause-whole
returns-clause-whole c = c.survey_items.ensures.whole refl

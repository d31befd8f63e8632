use Rattle.std.proofs.{Common.{arith}, lemmas.Grind.{common_steps}}
use Rattle.iref_splice.proofs.PartLemmas.{part_stands}
use Rattle.iref_component.proofs.path_mut.PathMut.apply.Goals as goal

pub returns-clause-edit : goal.returns-clause-edit
returns-clause-edit g c = λ value steps. grind (arith, common_steps, part_stands, g.T.Target.is_within _ _ _ _ c.args.self.now.placed)

use Rattle.std.proofs.{Common.{arith}, lemmas.Bool.Decides.{not_from_Decides}}
use Rattle.iref_component.proofs.test_before_edit.test.Goals as goal

pub returns-in-Some-clause-invalid : goal.returns-in-Some-clause-invalid
returns-in-Some-clause-invalid g c = grind (arith, not_from_Decides _ (g.R.Rule.decided g.C.CharSet.tests g.met.C.CharSet.above_ascii c.in-Some.text.now))

use Rattle.std.proofs.{Common.{arith}, lemmas.Bool.Decides.{not_from_Decides}}
use Rattle.iref_component.proofs.rule_text.RuleText.read.Goals as goal

pub returns-else-accepts : goal.returns-else-accepts
returns-else-accepts g c = grind (arith, not_from_Decides _ (g.R.Rule.decided g.C.CharSet.tests g.met.C.CharSet.above_ascii (g.S.Storage.bytes c.args.text)))

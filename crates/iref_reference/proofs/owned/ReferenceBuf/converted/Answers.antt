use Rattle.std.proofs.{Common.{rules, refl}, lemmas.Bool.Decides.{not_from_Decides}}
use Rattle.iref_reference.proofs.owned.ReferenceBuf.converted.Goals as goal

pub returns-then-accepts : goal.returns-then-accepts
returns-then-accepts g c =
    ((g.S.Rule.decided g.D.CharSet.tests g.met.D.CharSet.above_ascii c.args.self.inner).0 (search rules), search rules)

pub returns-else-accepts : goal.returns-else-accepts
returns-else-accepts g c =
    (not_from_Decides _ (g.S.Rule.decided g.D.CharSet.tests g.met.D.CharSet.above_ascii c.args.self.inner) (search rules), refl)

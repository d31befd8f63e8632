use Rattle.std.proofs.Common.{rules}
use Rattle.iref_reference_text.proofs.SchemeLemmas.{scheme_alone}
use Rattle.iref_reference_text.proofs.reference_text.ReferenceText.from_scheme.Goals as goal

pub new_unchecked-requires : goal.new_unchecked-requires
new_unchecked-requires g c =
    let set = g.C.CharSet.tests in
    search (rules, scheme_alone set g.met.C.CharSet.above_ascii (g.R.Rule.test set) g.R.HeldRule.allows_scheme (g.met.R.HeldRule.by_scheme set))

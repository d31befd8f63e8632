use Rattle.std.proofs.Common.{ap, ◌∙◌}
use Rattle.iref_grammar.specs.ComponentTexts.{read_components}
use Rattle.iref_reference.proofs.ResolutionLemmas.{readable_slices}
use Rattle.iref_reference.proofs.owned.ReferenceBuf.parts.Goals as goal

pub returns-clause-readable : goal.returns-clause-readable
returns-clause-readable g c =
    readable_slices g.C.CharSet.tests c.args.self.now.inner _ (ap read_components c.from_slices.ensures ∙ c.slices.ensures.value)
    (g.met.R.HeldRule.references g.C.CharSet.tests c.args.self.now.inner c.slices.ensures.in_rule)

use Rattle.iref_reference.proofs.ResolutionLemmas.{readable_slices}
use Rattle.iref_reference.proofs.borrowed.Reference.parts.Goals as goal

pub returns-clause-readable : goal.returns-clause-readable
returns-clause-readable g c =
    readable_slices g.C.CharSet.tests c.as_str.result.now _ c.of_text.ensures.value
    (g.met.R.HeldRule.references g.C.CharSet.tests c.as_str.result.now c.as_str.ensures.in_rule)

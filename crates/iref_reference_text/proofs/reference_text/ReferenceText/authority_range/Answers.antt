use Rattle.iref_reference_text.proofs.EditLemmas.{authority_within}
use Rattle.iref_reference_text.proofs.reference_text.ReferenceText.authority_range.Goals as goal

pub returns-clause-within : goal.returns-clause-within
returns-clause-within g c =
    let set = g.C.CharSet.tests in
    let text = c.args.self.now in
    rw (c.path_start.ensures, c.lengths-lengths.ensures.lengths) (authority_within set g.met.C.CharSet.above_ascii text (g.met.R.HeldRule.references set text c.lengths-lengths.ensures.in_rule))

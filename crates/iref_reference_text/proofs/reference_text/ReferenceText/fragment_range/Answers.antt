use Rattle.iref_reference_text.proofs.EditLemmas.{fragment_within}
use Rattle.iref_reference_text.proofs.reference_text.ReferenceText.fragment_range.Goals as goal

pub returns-clause-within : goal.returns-clause-within
returns-clause-within g c =
    let set = g.C.CharSet.tests in
    let text = c.args.self.now in
    rw (c.fragment_mark.ensures, c.as_str.ensures.value, c.self.view_is, c.lengths.ensures.lengths) (fragment_within set g.met.C.CharSet.above_ascii text (g.met.R.HeldRule.references set text c.lengths.ensures.in_rule))

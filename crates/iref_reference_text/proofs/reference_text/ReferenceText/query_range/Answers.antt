use Rattle.iref_reference_text.proofs.EditLemmas.{query_within}
use Rattle.iref_reference_text.proofs.reference_text.ReferenceText.query_range.Goals as goal

pub returns-clause-within : goal.returns-clause-within
returns-clause-within g c =
    let set = g.C.CharSet.tests in
    let text = c.args.self.now in
    rw (c.query_mark.ensures, c.fragment_mark.ensures, c.lengths-lengths.ensures.lengths) (query_within set g.met.C.CharSet.above_ascii text (g.met.R.HeldRule.references set text c.lengths-lengths.ensures.in_rule))

use Rattle.std.proofs.Common.{ap, sym}
use Rattle.iref_grammar.specs.Reference.{read_reference}
use Rattle.iref_grammar.proofs.ComponentLemmas.{Decides-AreComponents}
use Rattle.iref_parse.specs.ReferenceSlices.{texts_of}
use Rattle.iref_reference.specs.References.{reference_value}
use Rattle.iref_reference.proofs.ResolutionLemmas.{readable_slices}
use Rattle.iref_reference.proofs.borrowed.Reference.slices.Goals as goal

pub returns-clause-components : goal.returns-clause-components
returns-clause-components g c =
    let set = g.C.CharSet.tests in
    let text = c.as_str.result.now in
    (Decides-AreComponents set g.met.C.CharSet.above_ascii text (texts_of c.split_reference.result) c.split_reference.ensures.value).0
    (g.met.R.HeldRule.references set text c.as_str.ensures.in_rule)

pub returns-clause-readable : goal.returns-clause-readable
returns-clause-readable g c =
    let set = g.C.CharSet.tests in
    let text = c.as_str.result.now in
    readable_slices set text (reference_value c.args.self.now) (sym (ap read_reference c.as_str.ensures.text))
    (g.met.R.HeldRule.references set text c.as_str.ensures.in_rule)

use Rattle.std.proofs.Common.{rules, subst, sym, ap}
use Rattle.iref_grammar.specs.Reference.{ReferenceValue}
use Rattle.iref_grammar.proofs.ComponentLemmas.{Decides-AreComponents}
use Rattle.iref_parse.specs.ReferenceSlices.{texts_of}
use Rattle.iref_reference.proofs.parts.Parts.of_text.Goals as goal

pub from_slices-requires : goal.from_slices-requires
from_slices-requires g c =
    let value = c.split_reference.ensures.value in
    let components = (Decides-AreComponents g.C.CharSet.tests g.met.C.CharSet.above_ascii c.args.text.now (texts_of c.split_reference.result) value).0 c.requires.reference in
    let allowed = subst g.S.SchemePart.allows (ap (λ (r : ReferenceValue). r.scheme) (sym value)) c.requires.allowed in
    search rules

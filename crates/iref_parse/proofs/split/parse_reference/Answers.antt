use Rattle.std.proofs.{Common.{ap, subst, sym, ◌∙◌}, lemmas.Bool.Decides.{same_from_decides}}
use Rattle.iref_parse.specs.{Encoded.{AreEncoded, are_encoded, is_plain_char}, ReferenceSlices.{texts_of}}
use Rattle.iref_parse.proofs.PlainTextLemmas.{components_of_encoded}
use Rattle.iref_grammar.proofs.ComponentLemmas.{Decides-AreComponents}
use Rattle.iref_parse.proofs.split.parse_reference.Goals as goal

pub are_components-requires : goal.are_components-requires
are_components-requires g c = λ e.
    let set = g.C.CharSet.tests in
    let encoded = ap (are_encoded (is_plain_char set)) (sym c.as_bytes.ensures.value) ∙ c.is_encoded_text.ensures e in
    subst (AreEncoded set) (sym c.split_reference-slices.ensures.texts) (components_of_encoded set g.met.C.CharSet.above_ascii c.args.text.now encoded)

pub returns-then-are_components-clause-accepted : goal.returns-then-are_components-clause-accepted
returns-then-are_components-clause-accepted g c =
    let same = same_from_decides _ _ c.are_components.ensures (Decides-AreComponents g.C.CharSet.tests g.met.C.CharSet.above_ascii c.args.text.now (texts_of c.split_reference-slices.result) c.split_reference-slices.ensures.value) in
    sym c.if-are_components.true ∙ same

pub returns-else-are_components-clause-accepted : goal.returns-else-are_components-clause-accepted
returns-else-are_components-clause-accepted g c =
    let same = same_from_decides _ _ c.are_components.ensures (Decides-AreComponents g.C.CharSet.tests g.met.C.CharSet.above_ascii c.args.text.now (texts_of c.split_reference-slices.result) c.split_reference-slices.ensures.value) in
    sym c.if-are_components.false ∙ same

use Rattle.std.proofs.{Common.{ap, subst, sym, ◌∙◌, is_some}, lemmas.Bool.{and_parts}, lemmas.Bool.Decides.{same_from_decides}}
use Rattle.std.proofs.lemmas.Str.{IsUtf8-from_is_utf8}
use Rattle.iref_parse.specs.{Encoded.{AreEncoded}, ReferenceSlices.{texts_of}}
use Rattle.iref_grammar.specs.{ComponentTexts.{spell_components}, Reference.{read_reference}}
use Rattle.iref_grammar.proofs.ComponentLemmas.{Decides-AreComponents}
use Rattle.iref_parse.proofs.PlainTextLemmas.{components_of_encoded, no_reference}
use Rattle.iref_parse.proofs.split.parse_bytes.Goals as goal

pub text_of-requires : goal.text_of-requires
text_of-requires g c = λ e. IsUtf8-from_is_utf8 c.args.bytes.now ((and_parts _ _ (c.is_encoded_text-is_encoded.ensures e)).0)

pub returns-in_err-text_of-clause-accepted : goal.returns-in_err-text_of-clause-accepted
returns-in_err-text_of-clause-accepted g c = ap is_some c.from_residual.ensures ∙ no_reference g.C.CharSet.tests g.met.C.CharSet.above_ascii c.args.bytes.now c.in_err-text_of.ensures

pub are_components-requires : goal.are_components-requires
are_components-requires g c = λ e.
    let set = g.C.CharSet.tests in
    let texts = c.split_reference-slices.ensures.texts ∙ ap (λ t. spell_components (read_reference t)) c.in_ok-text_of.ensures in
    subst (AreEncoded set) (sym texts) (components_of_encoded set g.met.C.CharSet.above_ascii c.args.bytes.now (c.is_encoded_text-is_encoded.ensures e))

pub returns-then-are_components-clause-accepted : goal.returns-then-are_components-clause-accepted
returns-then-are_components-clause-accepted g c =
    let value = c.split_reference-slices.ensures.value ∙ ap read_reference c.in_ok-text_of.ensures in
    let same = same_from_decides _ _ c.are_components.ensures (Decides-AreComponents g.C.CharSet.tests g.met.C.CharSet.above_ascii c.args.bytes.now (texts_of c.split_reference-slices.result) value) in
    sym c.if-are_components.true ∙ same

pub returns-else-are_components-clause-accepted : goal.returns-else-are_components-clause-accepted
returns-else-are_components-clause-accepted g c =
    let value = c.split_reference-slices.ensures.value ∙ ap read_reference c.in_ok-text_of.ensures in
    let same = same_from_decides _ _ c.are_components.ensures (Decides-AreComponents g.C.CharSet.tests g.met.C.CharSet.above_ascii c.args.bytes.now (texts_of c.split_reference-slices.result) value) in
    sym c.if-are_components.false ∙ same

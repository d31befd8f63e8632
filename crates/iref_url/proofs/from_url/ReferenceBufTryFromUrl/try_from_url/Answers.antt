use Rattle.std.proofs.{Common.{◌≡◌, ◌∙◌, refl, sym, ap}, lemmas.Bool.Decides.{not_from_Decides}}
use Rattle.std.specs.String.{string_bytes}
use Rattle.url.specs.Parts.{serialize}
use Rattle.iref_grammar.specs.Rules.{InUtf8}
use Rattle.iref_reference.specs.References.{reference_buf_text}
use Rattle.iref_url.proofs.ParseLemmas.{ok_if_in}
use Rattle.iref_url.proofs.from_url.ReferenceBufTryFromUrl.try_from_url.Goals as goal

pub unwrap-requires : goal.unwrap-requires
unwrap-requires g c =
    let tests = g.C.CharSet.tests in
    let text = string_bytes c.from.result in
    let same : text ≡ c.as_str.result.now = c.from.ensures ∙ sym c.as_str.ensures.value in
    let accepted = ap (g.R.Rule.test tests) same ∙ sym c.accepts.ensures ∙ c.if-accepts.true in
    ok_if_in (InUtf8 (g.R.Rule.rule tests)) text reference_buf_text (λ error. g.R.Refuses.refused error ≡ c.from.result)
    c.new.result c.new.ensures ((g.R.Rule.decided tests g.met.C.CharSet.above_ascii text).0 accepted)

pub returns-else-accepts : goal.returns-else-accepts
returns-else-accepts g c =
    let tests = g.C.CharSet.tests in
    let text = serialize c.args.url in
    let refused = ap (g.R.Rule.test tests) (sym c.as_str.ensures.value) ∙ sym c.accepts.ensures ∙ c.if-accepts.false in
    (not_from_Decides _ (g.R.Rule.decided tests g.met.C.CharSet.above_ascii text) refused, refl)

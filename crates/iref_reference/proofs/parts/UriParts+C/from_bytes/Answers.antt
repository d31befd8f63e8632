use Rattle.std.proofs.Common.{ap, refl, sym, ◌∙◌, true≢false, is_some}
use Rattle.iref_grammar.specs.ComponentTexts.{ComponentTexts}
use Rattle.iref_reference.proofs.PartLemmas.{scheme_of_uri, uri_with_scheme}
use Rattle.iref_reference.proofs.parts.UriParts+C.from_bytes.Goals as goal

pub returns-in-Some-clause-parsed : goal.returns-in-Some-clause-parsed
returns-in-Some-clause-parsed g c =
    let scheme = c.in-Some.ensures.scheme ∙ ap (λ (t : ComponentTexts). is_some t.scheme) c.in-Ok.ensures.parsed.1 in (
      uri_with_scheme g.C.CharSet.tests g.met.C.CharSet.above_ascii c.args.bytes.now c.in-Ok.ensures.parsed.0 (sym scheme),
      c.in-Some.ensures.texts ∙ c.in-Ok.ensures.parsed.1,
    )

pub returns-in-None-clause-parsed : goal.returns-in-None-clause-parsed
returns-in-None-clause-parsed g c =
    let scheme = c.in-None.ensures.scheme ∙ ap (λ (t : ComponentTexts). is_some t.scheme) c.in-Ok.ensures.parsed.1 in (
      λ is_uri. absurd (true≢false (sym (scheme ∙ scheme_of_uri g.C.CharSet.tests g.met.C.CharSet.above_ascii c.args.bytes.now is_uri))),
      refl,
    )

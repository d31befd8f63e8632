use Rattle.std.proofs.Common.{◌≡◌, ◌∙◌, true, rules}
use Rattle.iref_grammar.specs.Characters.{iri_chars, uri_chars, uri_above_ascii}
use Rattle.iref_reference.specs.References.{reference_buf_text}
use Rattle.iref_reference.proofs.MappingLemmas.{kept}
use Rattle.iref_reference.proofs.conversions.ReferenceBuf+R+IriChars.into_mapped.Goals as goal

pub returns-in-Ok-clause-ok : goal.returns-in-Ok-clause-ok
returns-in-Ok-clause-ok g c =
    let iri = reference_buf_text c.args.self in
    let tested : g.R.Rule.test iri_chars iri ≡ true = search rules in
    kept iri (reference_buf_text c.from_inner.result) _ (g.met.R.HeldRule.references iri_chars iri tested) (λ u. g.met.R.HeldRule.references uri_chars iri ((g.R.Rule.decided uri_chars uri_above_ascii iri).1 u))
    (c.from_inner.ensures ∙ c.in-Ok.ensures.ok)

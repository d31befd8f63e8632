use Rattle.std.proofs.Common.{ap, sym, ◌∙◌}
use Rattle.iref_grammar.specs.Characters.{iri_chars, uri_chars, uri_above_ascii}
use Rattle.iref_grammar.specs.Mapping.{mapped}
use Rattle.iref_reference.specs.References.{reference_text, reference_buf_text}
use Rattle.iref_reference.proofs.MappingLemmas.{kept}
use Rattle.iref_reference.proofs.conversions.Reference+R+IriChars.mapped.Goals as goal

pub returns : goal.returns
returns g c =
    let iri = reference_text c.args.self.now in
    let is_iri = g.met.R.HeldRule.references iri_chars iri (ap (g.R.Rule.test iri_chars) (sym c.as_str.ensures.text) ∙ c.as_str.ensures.in_rule) in
    kept iri (reference_buf_text c.from_inner.result) _ is_iri (λ u. g.met.R.HeldRule.references uri_chars iri ((g.R.Rule.decided uri_chars uri_above_ascii iri).1 u))
    (c.from_inner.ensures ∙ c.in_ok-inner.ensures ∙ ap mapped c.as_str.ensures.text)

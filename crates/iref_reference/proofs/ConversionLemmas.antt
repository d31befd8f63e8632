-- What is in a rule over the characters of URIs is in it over those of IRIs.
use Rattle.std.proofs.Common.{◌≡◌, true, arith}
use Rattle.iref_grammar.specs.{Characters.{uri_chars, iri_chars, iri_above_ascii}, Rules.{Text}}
use Rattle.iref_grammar.specs.Reference.{is_reference, is_uri}
use Rattle.iref_grammar.proofs.ComponentLemmas.{uri_if_scheme, reference_if_uri, scheme_if_uri}
use Rattle.iref_grammar.proofs.WiderLemmas.{uri_reference}

pub iri_reference : (text : Text) → is_reference uri_chars text ≡ true → is_reference iri_chars text ≡ true
iri_reference = uri_reference iri_chars iri_above_ascii

pub iri : (text : Text) → is_uri uri_chars text ≡ true → is_uri iri_chars text ≡ true
iri text h = grind (arith, uri_if_scheme, iri_reference, reference_if_uri, scheme_if_uri)

pub ruleset wider = (iri_reference, iri)

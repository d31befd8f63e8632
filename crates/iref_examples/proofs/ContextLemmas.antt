-- Texts of a JSON-LD document.
use Rattle.std.proofs.Common.{arith, ◌≡◌, false, Some, None}
use Rattle.iref.specs.{Reference.{is_reference}, Characters.{iri_chars, iri_above_ascii}}
use Rattle.iref.specs.{Grammar.{IsUri, IsUriReference}, Rules.{Text, InUtf8}}
use Rattle.iref.proofs.ReferenceRuleLemmas.{Decides-is_uri, Decides-is_uri_reference}
use Rattle.iref_examples.specs.ContextTexts.{itself}

pub iri_itself : (text : Text) → InUtf8 (IsUri iri_chars) text → itself text ≡ Some text
iri_itself text h = grind (arith, Decides-is_uri iri_chars iri_above_ascii text)

pub no_iri_itself : (text : Text) → (InUtf8 (IsUri iri_chars) text → ⊥) → itself text ≡ None
no_iri_itself text h = grind (arith, Decides-is_uri iri_chars iri_above_ascii text)

pub no_reference : (text : Text) → (InUtf8 (IsUriReference iri_chars) text → ⊥) → is_reference iri_chars text ≡ false
no_reference text h = grind (arith, Decides-is_uri_reference iri_chars iri_above_ascii text)

pub ruleset itselfs = (iri_itself, no_iri_itself, no_reference)

-- What the mapping of an IRI keeps.
use Rattle.std.proofs.Common.{◌≡◌, true, arith}
use Rattle.iref_grammar.specs.Characters.{iri_chars, iri_above_ascii, uri_chars, uri_above_ascii}
use Rattle.iref_grammar.specs.{Reference.{is_reference, read_reference}, Rules.{Text}}
use Rattle.iref_grammar.proofs.ReferenceRuleLemmas.{Decides-is_uri_reference}
use Rattle.iref_grammar.specs.{Key.{key}, Mapping.{mapped}}
use Rattle.iref_grammar.proofs.AsciiReferenceLemmas.{key-tested, read_reference-tested, uri_reference_stays}
use Rattle.iref_reference.specs.Mappings.{IsMapped}

pub kept : (iri text : Text) (IsUri : Type 0) → is_reference iri_chars iri ≡ true → (IsUri → is_reference uri_chars iri ≡ true) → text ≡ mapped iri
    → IsMapped iri text × (key (read_reference text) ≡ key (read_reference iri)) × (IsUri → text ≡ iri)
kept iri text IsUri h is_uri e =
    grind (arith, read_reference-tested iri_chars iri_above_ascii, key-tested iri_chars iri_above_ascii, uri_reference_stays, Decides-is_uri_reference uri_chars uri_above_ascii)

-- What the rules of references hold of the mapping.
use Rattle.std.proofs.Common.{◌≡◌, ap, ◌∙◌, Bool, true, Option}
use Rattle.iref_grammar.specs.{Characters.{CharTests, AreAboveAscii, uri_chars}, Rules.{Text}}
use Rattle.iref_grammar.specs.Reference.{read_reference, is_reference}
use Rattle.iref_grammar.specs.Mapping.{mapped}
use Rattle.iref_grammar.proofs.AsciiReferenceLemmas.{is_reference-mapped, scheme-tested}

-- the mapping is in the rule that the text is in, over the characters of URIs
pub mapping-in_rule : (test : CharTests → Text → Bool) (allows : Option Text → Bool)
    → ((tests : CharTests) (text : Text) → test tests text ≡ true → is_reference tests text ≡ true)
    → ((tests : CharTests) (text : Text) → test tests text ≡ true → allows (read_reference text).scheme ≡ true)
    → ((tests : CharTests) (text : Text) → is_reference tests text ≡ true → allows (read_reference text).scheme ≡ true → test tests text ≡ true)
    → (set : CharTests) → AreAboveAscii set → (text : Text) → test set text ≡ true → test uri_chars (mapped text) ≡ true
mapping-in_rule test allows references allowed by_scheme set above text h =
    let reference = references set text h in
    by_scheme uri_chars (mapped text) (is_reference-mapped set above text reference) (ap allows (scheme-tested set above text reference) ∙ allowed set text h)

-- The canonical text of a reference is in the rule of the reference, over the characters of URIs, and tells it from those
-- that are not equal.
use Rattle.std.proofs.{Common.{◌≡◌, Bool, true, is_eq, sym, ◌∙◌, ap, bytes_eq, is_some, Option}, Math.Logic.{◌↔◌}}
use Rattle.std.proofs.{lemmas.Bool.Decides.{same_from_decides}, lemmas.Slice.Eq.{bytes_eq-Decides}}
use Rattle.iref_grammar.specs.{Characters.{AreAboveAscii, CharTests, uri_chars}, Rules.{Text}}
use Rattle.iref_grammar.specs.Reference.{IsReadable, ReferenceValue, is_reference, read_reference}
use Rattle.iref_grammar.proofs.ReferenceRuleLemmas.{Decides-is_uri_reference}
use Rattle.iref_grammar.specs.Key.{key, key_cmp}
use Rattle.iref_grammar.proofs.{MappedReferenceLemmas.{readable_text}, TieLemmas.{references_tie}}
use Rattle.iref_canonical.specs.Canonical.{canonical_text}
use Rattle.iref_canonical.proofs.CanonicalKeyLemmas.{scheme-canonical}
use Rattle.iref_canonical.proofs.CanonicalTextLemmas.{is_reference-canonical, text_keeps_key, text_read}
use Rattle.iref_reference.specs.CanonicalTexts.{IsCanonicalTextOf}

-- the key of a canonical text is the one that it was made of
pub key-canonical_text : (set : CharTests) → AreAboveAscii set → (text : Text) → is_reference set text ≡ true
    → key (read_reference (canonical_text (key (read_reference text)))) ≡ key (read_reference text)
key-canonical_text set above text h = text_keeps_key set above text ((Decides-is_uri_reference set above text).0 h)

-- what is read from the text of a reference is readable
pub readable-reference : (set : CharTests) → AreAboveAscii set → (text : Text) → is_reference set text ≡ true → IsReadable set (read_reference text)
readable-reference set above text h = readable_text set above text ((Decides-is_uri_reference set above text).0 h)

-- a canonical text has a scheme exactly if the text has one
same_presence : (set : CharTests) → AreAboveAscii set → (text : Text) → is_reference set text ≡ true
    → is_some (read_reference text).scheme ≡ is_some (read_reference (canonical_text (key (read_reference text)))).scheme
same_presence set above text h =
    let read = text_read set above text ((Decides-is_uri_reference set above text).0 h) in
    sym (ap (λ (r : ReferenceValue). is_some r.scheme) read ∙ scheme-canonical (read_reference text))

-- the canonical text is in the rule that the text is in, over the characters of URIs
pub in_rule-canonical : (test : CharTests → Text → Bool) (allows : Option Text → Bool)
    → ((tests : CharTests) (text : Text) → test tests text ≡ true → is_reference tests text ≡ true)
    → ((tests : CharTests) (text : Text) → test tests text ≡ true → allows (read_reference text).scheme ≡ true)
    → ((tests : CharTests) (text : Text) → is_reference tests text ≡ true → allows (read_reference text).scheme ≡ true → test tests text ≡ true)
    → ((one other : Option Text) → is_some one ≡ is_some other → allows one ≡ true → allows other ≡ true)
    → (set : CharTests) → AreAboveAscii set → (text : Text) → test set text ≡ true → test uri_chars (canonical_text (key (read_reference text))) ≡ true
in_rule-canonical test allows references allowed by_scheme by_presence set above text h =
    let reference = references set text h in
    by_scheme uri_chars _ (is_reference-canonical set above text reference) (by_presence _ _ (same_presence set above text reference) (allowed set text h))

-- keys are the same exactly where their canonical texts are
pub same_by_texts : (k l : ReferenceValue) (s t : Text) → IsCanonicalTextOf k s → IsCanonicalTextOf l t → (s ≡ t) ↔ (k ≡ l)
same_by_texts k l s t one other = (
  λ e. sym one.1 ∙ ap (λ u. key (read_reference u)) e ∙ other.1,
  λ e. one.0 ∙ ap canonical_text e ∙ sym other.0,
)

-- and tie exactly where these are the same bytes
pub tied_by_texts : (k l : ReferenceValue) (s t : Text) → IsCanonicalTextOf k s → IsCanonicalTextOf l t → is_eq (key_cmp k l) ≡ bytes_eq s t
tied_by_texts k l s t one other =
    let bytes = bytes_eq-Decides s t in
    let same = same_by_texts k l s t one other in
    same_from_decides (is_eq (key_cmp k l)) (bytes_eq s t) (references_tie k l) (λ e. same.0 (bytes.0 e), λ e. bytes.1 (same.1 e))

pub ruleset by_texts = (same_by_texts, tied_by_texts)

-- Canonical texts of readable references and of texts in the grammar.
use Rattle.std.proofs.{Common.{◌≡◌, true, refl, sym, ◌∙◌, ap, subst, IsUtf8}, Math.Logic.{◌↔◌}}
use Rattle.std.specs.{Char.{is_ascii}, List.{list_all}}
use Rattle.iref_grammar.specs.{Characters.{CharTests, AreAboveAscii, uri_chars, uri_above_ascii}, Rules.{Text, InUtf8}}
use Rattle.iref_grammar.specs.Grammar.{IsUri, IsUriReference}
use Rattle.iref_grammar.specs.Reference.{ReferenceValue, IsReadable, read_reference, is_reference, is_uri}
use Rattle.iref_grammar.proofs.ReferenceRuleLemmas.{Decides-is_readable, Decides-is_uri_reference, Decides-is_uri, reference_read, one_spelling, in_utf8-reference, in_utf8-full}
use Rattle.iref_grammar.specs.{Key.{key, AreAlike}, Mapping.{mapped}}
use Rattle.iref_grammar.proofs.AsciiReferenceLemmas.{is_reference-ascii}
use Rattle.iref_grammar.proofs.MappedReferenceLemmas.{readable_text, key-mapped_text}
use Rattle.iref_canonical.specs.Canonical.{canonical, canonical_text}
use Rattle.iref_canonical.proofs.CanonicalKeyLemmas.{is_key, readable-canonical, key-canonical, scheme-canonical}

module _ (set : CharTests) (above : AreAboveAscii set) where
  -- ---- of readable references

  pub canonical-readable : (r : ReferenceValue) → IsReadable set r → IsReadable uri_chars (canonical (key r))
  canonical-readable r v = (Decides-is_readable uri_chars uri_above_ascii (canonical (key r))).0 (readable-canonical (key r) (is_key set above r v))

  pub key_kept : (r : ReferenceValue) → IsReadable set r → key (canonical (key r)) ≡ key r
  key_kept r v = key-canonical (key r) (is_key set above r v)

  -- what is read from a canonical text
  pub canonical_text-read : (r : ReferenceValue) → IsReadable set r → read_reference (canonical_text (key r)) ≡ canonical (key r)
  canonical_text-read r v = reference_read uri_chars uri_above_ascii (canonical (key r)) (canonical-readable r v)

  pub canonical-again : (r : ReferenceValue) → IsReadable set r → canonical (key (canonical (key r))) ≡ canonical (key r)
  canonical-again r v = ap canonical (key_kept r v)

  -- a canonical text is a URI reference
  text_in_grammar : (r : ReferenceValue) → IsReadable set r → InUtf8 (IsUriReference uri_chars) (canonical_text (key r))
  text_in_grammar r v = (in_utf8-reference uri_chars uri_above_ascii (canonical_text (key r))).1 (canonical (key r), canonical-readable r v, refl)

  pub text_utf8 : (r : ReferenceValue) → IsReadable set r → IsUtf8 (canonical_text (key r))
  text_utf8 r v = let z = text_in_grammar r v in (z.0, (z.1, z.2))

  -- ---- of texts in the grammar

  pub text_is_reference : (bytes : Text) → InUtf8 (IsUriReference set) bytes → InUtf8 (IsUriReference uri_chars) (canonical_text (key (read_reference bytes)))
  text_is_reference bytes h = text_in_grammar (read_reference bytes) (readable_text set above bytes h)

  pub text_is_uri : (bytes : Text) → InUtf8 (IsUri set) bytes → InUtf8 (IsUri uri_chars) (canonical_text (key (read_reference bytes)))
  text_is_uri bytes h =
      let z = (in_utf8-full set above bytes).0 h in
      let scheme = scheme-canonical z.0 ∙ z.2 in
      subst (λ r. InUtf8 (IsUri uri_chars) (canonical_text (key r))) (sym (reference_read set above z.0 z.1) ∙ ap read_reference z.3)
      ((in_utf8-full uri_chars uri_above_ascii (canonical_text (key z.0))).1 (canonical (key z.0), canonical-readable z.0 z.1, scheme, refl))

  pub text_read : (bytes : Text) → InUtf8 (IsUriReference set) bytes → read_reference (canonical_text (key (read_reference bytes))) ≡ canonical (key (read_reference bytes))
  text_read bytes h = canonical_text-read (read_reference bytes) (readable_text set above bytes h)

  pub text_keeps_key : (bytes : Text) → InUtf8 (IsUriReference set) bytes → key (read_reference (canonical_text (key (read_reference bytes)))) ≡ key (read_reference bytes)
  text_keeps_key bytes h = ap key (text_read bytes h) ∙ key_kept (read_reference bytes) (readable_text set above bytes h)

  pub text_again : (bytes : Text) → InUtf8 (IsUriReference set) bytes → canonical_text (key (read_reference (canonical_text (key (read_reference bytes))))) ≡ canonical_text (key (read_reference bytes))
  text_again bytes h = ap canonical_text (text_keeps_key bytes h)

  pub text_of_mapping : (bytes : Text) → InUtf8 (IsUriReference set) bytes → canonical_text (key (read_reference (mapped bytes))) ≡ canonical_text (key (read_reference bytes))
  text_of_mapping bytes h = ap canonical_text (key-mapped_text set above bytes h)

  -- ---- by the tests

  pub is_reference-canonical : (text : Text) → is_reference set text ≡ true → is_reference uri_chars (canonical_text (key (read_reference text))) ≡ true
  is_reference-canonical text h =
      (Decides-is_uri_reference uri_chars uri_above_ascii (canonical_text (key (read_reference text)))).1 (text_is_reference text ((Decides-is_uri_reference set above text).0 h))

  pub is_uri-canonical : (text : Text) → is_uri set text ≡ true → is_uri uri_chars (canonical_text (key (read_reference text))) ≡ true
  is_uri-canonical text h =
      (Decides-is_uri uri_chars uri_above_ascii (canonical_text (key (read_reference text)))).1 (text_is_uri text ((Decides-is_uri set above text).0 h))

  pub text_ascii : (r : ReferenceValue) → IsReadable set r → list_all is_ascii (canonical_text (key r)) ≡ true
  text_ascii r v =
      let text = canonical_text (key r) in
      let taken = (Decides-is_uri_reference uri_chars uri_above_ascii text).1 (text_in_grammar r v) in
      sym (is_reference-ascii uri_chars uri_above_ascii text taken) ∙ taken

-- of readable references of two sets of characters, such as a URI and an IRI
pub same_texts : (set other : CharTests) → AreAboveAscii set → AreAboveAscii other → (r s : ReferenceValue) → IsReadable set r → IsReadable other s
    → (canonical_text (key r) ≡ canonical_text (key s)) ↔ AreAlike r s
same_texts set other above other_above r s v w = (
  λ e.
      let same = one_spelling uri_chars uri_above_ascii (canonical (key r)) (canonical (key s)) (canonical-readable set above r v) (canonical-readable other other_above s w) e in
      sym (key_kept set above r v) ∙ ap key same ∙ key_kept other other_above s w,
  λ e. ap canonical_text e,
)

pub ruleset again = (canonical-again, text_again)

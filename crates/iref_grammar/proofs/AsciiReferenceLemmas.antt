-- A reference is one of URIs exactly if it is ASCII, and exactly if the mapping leaves it.
use Rattle.std.proofs.Common.{◌≡◌, ℕ, true, sym, ◌∙◌, ap, subst, arith}
use Rattle.std.proofs.{Math.Logic.{◌↔◌}}
use Rattle.std.proofs.{lemmas.Bool.Decides.{same_from_decides}}
use Rattle.std.specs.{Bool.{Decides}, List.{list_all}, Char.{is_ascii}}
use Rattle.iref_grammar.specs.{Characters.{CharTests, AreAboveAscii, uri_chars, uri_above_ascii}, Rules.{Text, InUtf8}}
use Rattle.iref_grammar.specs.Grammar.{is_reg_name_char, is_user_info_char, is_path_char, is_fragment_char, is_query_char, IsScheme, IsUri, IsUriReference}
use Rattle.iref_grammar.specs.Reference.{ReferenceValue, read_reference, is_reference, is_uri}
use Rattle.iref_grammar.proofs.RuleLemmas.{Decides-ones}
use Rattle.iref_grammar.proofs.ReferenceRuleLemmas.{Decides-is_uri_reference, Decides-is_uri}
use Rattle.iref_grammar.specs.{Key.{key}, Mapping.{mapped, mapped_reference}}
use Rattle.iref_grammar.proofs.MappedLemmas.{mapped-ascii, ascii-mapped}
use Rattle.iref_grammar.proofs.MappedRuleLemmas.{mapped-ascii_rule, mapped-scheme, stays_option}
use Rattle.iref_grammar.proofs.KnownCharacterLemmas.{is_known, IsKnown, known_reference}
use Rattle.iref_grammar.proofs.KnownCharacterLemmas.{reg_name_known, user_info_known, path_known, fragment_known, query_known}
use Rattle.iref_grammar.proofs.MappedReferenceLemmas.{reference_is_uri_reference, iri_is_uri, uri_is_reference, readable_text, read_reference-mapped, key-mapped_text}

-- the characters that the set of URIs adds are none
known_ascii : (c : ℕ) → is_known uri_chars uri_above_ascii c ≡ is_ascii c
known_ascii c = grind arith

pub reg_name_ascii : (c : ℕ) → is_reg_name_char uri_chars c ≡ true → is_ascii c ≡ true
reg_name_ascii c h = sym (known_ascii c) ∙ reg_name_known uri_chars uri_above_ascii c h

pub user_info_ascii : (c : ℕ) → is_user_info_char uri_chars c ≡ true → is_ascii c ≡ true
user_info_ascii c h = sym (known_ascii c) ∙ user_info_known uri_chars uri_above_ascii c h

pub path_ascii : (c : ℕ) → is_path_char uri_chars c ≡ true → is_ascii c ≡ true
path_ascii c h = sym (known_ascii c) ∙ path_known uri_chars uri_above_ascii c h

pub fragment_ascii : (c : ℕ) → is_fragment_char uri_chars c ≡ true → is_ascii c ≡ true
fragment_ascii c h = sym (known_ascii c) ∙ fragment_known uri_chars uri_above_ascii c h

pub query_ascii : (c : ℕ) → is_query_char uri_chars c ≡ true → is_ascii c ≡ true
query_ascii c h = sym (known_ascii c) ∙ query_known uri_chars uri_above_ascii c h

all_ascii : (text : Text) → IsKnown uri_chars uri_above_ascii text → list_all is_ascii text ≡ true
all_ascii text known =
    (λ i. list_all (λ c. sym (known_ascii c) i) text) ∙ (Decides-ones (is_known uri_chars uri_above_ascii) text).1 known

-- so what is in the grammar of URIs stays
pub uri_reference_stays : (bytes : Text) → InUtf8 (IsUriReference uri_chars) bytes → mapped bytes ≡ bytes
uri_reference_stays bytes h =
    mapped-ascii_rule (IsKnown uri_chars uri_above_ascii) all_ascii bytes (known_reference uri_chars uri_above_ascii bytes h)

pub uri_reference_ascii : (bytes : Text) → InUtf8 (IsUriReference uri_chars) bytes → list_all is_ascii bytes ≡ true
uri_reference_ascii bytes h = subst (λ t. list_all is_ascii t ≡ true) (uri_reference_stays bytes h) (ascii-mapped bytes)

module _ (set : CharTests) (above : AreAboveAscii set) where
  -- a reference that stays is in the grammar of URIs
  pub stays_if_uri_reference : (bytes : Text) → InUtf8 (IsUriReference set) bytes → (mapped bytes ≡ bytes) ↔ InUtf8 (IsUriReference uri_chars) bytes
  stays_if_uri_reference bytes h = (λ e. subst (InUtf8 (IsUriReference uri_chars)) e (reference_is_uri_reference set above bytes h), uri_reference_stays bytes)

  -- one of ASCII is
  pub Decides-uri_reference : (bytes : Text) → InUtf8 (IsUriReference set) bytes → Decides (list_all is_ascii bytes) (InUtf8 (IsUriReference uri_chars) bytes)
  Decides-uri_reference bytes h = (λ low. (stays_if_uri_reference bytes h).0 (mapped-ascii bytes low), uri_reference_ascii bytes)

  pub Decides-uri : (bytes : Text) → InUtf8 (IsUri set) bytes → Decides (list_all is_ascii bytes) (InUtf8 (IsUri uri_chars) bytes)
  Decides-uri bytes h = (λ low. subst (InUtf8 (IsUri uri_chars)) (mapped-ascii bytes low) (iri_is_uri set above bytes h), λ z. uri_reference_ascii bytes (uri_is_reference uri_chars uri_above_ascii bytes z))

  -- ---- by the tests

  in_rule : (text : Text) → is_reference set text ≡ true → InUtf8 (IsUriReference set) text
  in_rule text h = (Decides-is_uri_reference set above text).0 h

  in_uri_rule : (text : Text) → is_uri set text ≡ true → InUtf8 (IsUri set) text
  in_uri_rule text h = (Decides-is_uri set above text).0 h

  pub is_reference-mapped : (text : Text) → is_reference set text ≡ true → is_reference uri_chars (mapped text) ≡ true
  is_reference-mapped text h = (Decides-is_uri_reference uri_chars uri_above_ascii (mapped text)).1 (reference_is_uri_reference set above text (in_rule text h))

  pub is_uri-mapped : (text : Text) → is_uri set text ≡ true → is_uri uri_chars (mapped text) ≡ true
  is_uri-mapped text h = (Decides-is_uri uri_chars uri_above_ascii (mapped text)).1 (iri_is_uri set above text (in_uri_rule text h))

  pub is_reference-ascii : (text : Text) → is_reference set text ≡ true → is_reference uri_chars text ≡ list_all is_ascii text
  is_reference-ascii text h = same_from_decides (is_reference uri_chars text) (list_all is_ascii text) (Decides-is_uri_reference uri_chars uri_above_ascii text) (Decides-uri_reference text (in_rule text h))

  pub is_uri-ascii : (text : Text) → is_uri set text ≡ true → is_uri uri_chars text ≡ list_all is_ascii text
  is_uri-ascii text h = same_from_decides (is_uri uri_chars text) (list_all is_ascii text) (Decides-is_uri uri_chars uri_above_ascii text) (Decides-uri text (in_uri_rule text h))

  pub read_reference-tested : (text : Text) → is_reference set text ≡ true → read_reference (mapped text) ≡ mapped_reference (read_reference text)
  read_reference-tested text h = read_reference-mapped set above text (in_rule text h)

  pub scheme-tested : (text : Text) → is_reference set text ≡ true → (read_reference (mapped text)).scheme ≡ (read_reference text).scheme
  scheme-tested text h =
      ap (λ (r : ReferenceValue). r.scheme) (read_reference-tested text h)
      ∙ stays_option (InUtf8 IsScheme) mapped mapped-scheme (read_reference text).scheme (readable_text set above text (in_rule text h)).scheme

  pub key-tested : (text : Text) → is_reference set text ≡ true → key (read_reference (mapped text)) ≡ key (read_reference text)
  key-tested text h = key-mapped_text set above text (in_rule text h)

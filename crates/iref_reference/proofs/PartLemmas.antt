-- Components of a reference, as they are compared, and as they were read from bytes: a URI is a reference with a scheme.
use Rattle.std.proofs.{Common.{◌≡◌, true, ◌&&◌, ap, is_eq, Option, is_some}, lemmas.Bool.Decides.{same_from_decides}}
use Rattle.std.proofs.lemmas.Slice.Eq.{bytes_eq-Decides}
use Rattle.std.specs.{Option.{option_eq}, Ordering.{eq_by_cmp}, Str.{bytes_eq, str_to_ascii_lowercase}}
use Rattle.percent_encoding.specs.Percent.{percent_decode}
use Rattle.iref_grammar.specs.{Authority.{read_authority}, Characters.{AreAboveAscii, CharTests}}
use Rattle.iref_grammar.specs.{Grammar.{IsUri, IsUriReference}, Keys.{text_order}, PathValue.{read_path}}
use Rattle.iref_grammar.specs.{Reference.{read_reference}, Rules.{InUtf8, Text}}
use Rattle.iref_grammar.proofs.ComponentLemmas.{uri_if_scheme, scheme_if_uri}
use Rattle.iref_grammar.proofs.ReferenceRuleLemmas.{Decides-is_uri, Decides-is_uri_reference}
use Rattle.iref_grammar.specs.{AuthorityKey.{authority_key, authority_key_cmp}, Key.{key, key_cmp}}
use Rattle.iref_grammar.specs.PathKey.{path_key, path_key_cmp}
use Rattle.iref_grammar.proofs.{PartTieLemmas.{lower_case_tie, parts_tie}, TieLemmas.{references_tie}}
use Rattle.iref_component.specs.{Components.{text_of}, declared.rule_text.RuleText.{RuleText}}
use Rattle.iref_reference.specs.{declared.parts.Parts.{Parts}, Parts.{uri_ref_parts_key}}

-- they are equal, each by its own key, exactly where the keys of their references tie
pub parts_equal : {T R U K t r k u C c : _} (a b : Parts (Option (RuleText T R U K t r k u)) C c)
    → (option_eq (λ x y. is_eq (text_order (str_to_ascii_lowercase (text_of x)) (str_to_ascii_lowercase (text_of y)))) a.scheme b.scheme
    && (option_eq (λ x y. is_eq (authority_key_cmp (authority_key (read_authority (text_of x))) (authority_key (read_authority (text_of y))))) a.authority b.authority
    && (is_eq (path_key_cmp (path_key (read_path (text_of a.path))) (path_key (read_path (text_of b.path))))
    && (option_eq (λ x y. is_eq (text_order (percent_decode (text_of x)) (percent_decode (text_of y)))) a.query b.query
    && option_eq (λ x y. is_eq (text_order (percent_decode (text_of x)) (percent_decode (text_of y)))) a.fragment b.fragment))))
    ≡ eq_by_cmp key_cmp (uri_ref_parts_key a) (uri_ref_parts_key b)
parts_equal a b =
    let keys = parts_tie text_of text_of text_of _ _ _ (lower_case_tie text_of a.scheme b.scheme)
    a.authority b.authority (text_of a.path) (text_of b.path) a.query b.query a.fragment b.fragment in
    same_from_decides _ _ keys (references_tie _ _)

-- references of one text are equal
pub same_texts : (a b : Text) → bytes_eq a b ≡ true → eq_by_cmp key_cmp (key (read_reference a)) (key (read_reference b)) ≡ true
same_texts a b same = (references_tie _ _).1 (ap (λ text. key (read_reference text)) ((bytes_eq-Decides a b).0 same))

module _ (set : CharTests) (above : AreAboveAscii set) (text : Text) where
  pub uri_with_scheme : InUtf8 (IsUriReference set) text → is_some (read_reference text).scheme ≡ true → InUtf8 (IsUri set) text
  uri_with_scheme h k = (Decides-is_uri set above text).0 (uri_if_scheme set text ((Decides-is_uri_reference set above text).1 h) k)

  pub scheme_of_uri : InUtf8 (IsUri set) text → is_some (read_reference text).scheme ≡ true
  scheme_of_uri h = scheme_if_uri set text ((Decides-is_uri set above text).1 h)

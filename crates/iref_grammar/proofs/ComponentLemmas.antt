-- A text is a reference exactly if each of its components is in its rule.
use Rattle.std.proofs.Common.{arith, ◌≡◌, true, false, refl, sym, ◌∙◌, ap, Option, Some, None, option_map, is_some}
use Rattle.std.proofs.{lemmas.Grind.{common_steps}, lemmas.Bool.{and_from, and_parts}}
use Rattle.std.specs.{Borrow.{Bor}, Option.{option_copied}, Bool.{Decides}}
use Rattle.iref_grammar.specs.{Characters.{CharTests, AreAboveAscii}, Rules.{Text}, Tests.{none_or}}
use Rattle.iref_grammar.specs.Authority.{spell_authority, read_authority, has_authority_parts, is_authority}
use Rattle.iref_grammar.specs.Reference.{ReferenceValue, read_reference, is_reference, is_uri}
use Rattle.iref_grammar.specs.ComponentTexts.{ComponentTexts, spell_components, read_components, AreComponents}
use Rattle.iref_grammar.proofs.{AuthorityLemmas.{read_authority-spelled}, PathLemmas.{read_path-reads}}
use Rattle.iref_grammar.proofs.{ReadablePartsLemmas.{readable_parts, readable_from}, PathTestLemmas.{is_path-segments}}
use Rattle.iref_grammar.proofs.ContextLemmas.{read_follows, read_reads_as_path}

authority_tested : (set : CharTests) (o : Option Text) → none_or (has_authority_parts set) (option_map read_authority o) ≡ none_or (is_authority set) o
unfolding is_authority
authority_tested set None = refl
authority_tested set (Some text) = refl

pub authority_spelled : (o : Option Text) → o ≡ option_map spell_authority (option_map read_authority o)
authority_spelled None = refl
authority_spelled (Some text) = ap (λ t. Some t) (sym (read_authority-spelled text))

-- the texts are those that the reference of them spells
pub spell_components-read : (s : ComponentTexts) → s ≡ spell_components (read_components s)
spell_components-read s = λ i. record { scheme = s.scheme; authority = authority_spelled s.authority i; path = sym (read_path-reads s.path).spelled i; query = s.query; fragment = s.fragment }

pub spelled_as_read : (s : ComponentTexts) (r : ReferenceValue) → read_components s ≡ r → s ≡ spell_components r
spelled_as_read s r e = spell_components-read s ∙ ap spell_components e

-- a URI is a reference with a scheme
pub is_some-copied : (slice : Option (Bor Text)) → is_some slice ≡ is_some (option_copied slice)
is_some-copied None = refl
is_some-copied (Some text) = refl

pub uri_by_scheme : (set : CharTests) (text : Text) (s : ComponentTexts) → read_components s ≡ read_reference text → true ≡ is_reference set text → is_some s.scheme ≡ is_uri set text
unfolding is_uri read_reference
uri_by_scheme set text s e h = grind arith

pub not_uri : (set : CharTests) (text : Text) → false ≡ is_reference set text → false ≡ is_uri set text
unfolding is_uri read_reference
not_uri set text h = grind arith

pub uri_if_scheme : (set : CharTests) (text : Text) → is_reference set text ≡ true → is_some (read_reference text).scheme ≡ true → is_uri set text ≡ true
unfolding is_uri read_reference
uri_if_scheme set text h k = and_from _ _ k h

pub reference_if_uri : (set : CharTests) (text : Text) → is_uri set text ≡ true → is_reference set text ≡ true
unfolding is_uri
reference_if_uri set text h = (and_parts _ _ h).1

pub scheme_if_uri : (set : CharTests) (text : Text) → is_uri set text ≡ true → is_some (read_reference text).scheme ≡ true
unfolding is_uri read_reference
scheme_if_uri set text h = (and_parts _ _ h).0

pub ruleset full = (reference_if_uri, scheme_if_uri)

module _ (set : CharTests) (above : AreAboveAscii set) where
  pub Decides-AreComponents : (text : Text) (s : ComponentTexts) → read_components s ≡ read_reference text → Decides (is_reference set text) (AreComponents set s)
  unfolding is_reference
  Decides-AreComponents text s e = grind (arith, common_steps, authority_tested, is_path-segments, readable_parts, readable_from, read_follows, read_reads_as_path)

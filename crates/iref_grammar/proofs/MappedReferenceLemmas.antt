-- The mapping of the text of a reference.
use Rattle.std.proofs.{Common.{arith, ◌≡◌, sym, ◌∙◌, ap, Option, Some, None, option_map, IsSome}, lemmas.Grind.{common_steps}, Math.Logic.{◌↔◌}}
use Rattle.std.specs.Ordering.{is_eq}
use Rattle.iref_grammar.specs.{Characters.{CharTests, AreAboveAscii, uri_chars, uri_above_ascii}, Rules.{Text, InUtf8}}
use Rattle.iref_grammar.specs.{Grammar.{IsUri, IsUriReference}, Reference.{IsReadable, read_reference, is_reference}}
use Rattle.iref_grammar.proofs.ReferenceCutLemmas.{read_reference-spelled}
use Rattle.iref_grammar.proofs.ReferenceRuleLemmas.{Decides-is_readable, Decides-is_uri_reference, reference_read, in_utf8-reference, in_utf8-full}
use Rattle.iref_grammar.specs.{Key.{key, key_cmp, AreAlike, are_alike}, Mapping.{mapped, mapped_reference}}
use Rattle.iref_grammar.proofs.{MappedRuleLemmas.{readable_mapped}, MappedSpellingLemmas.{spell-mapped}}
use Rattle.iref_grammar.proofs.MappedKeyLemmas.{key-mapped}

module _ (set : CharTests) (above : AreAboveAscii set) where
  -- ---- in the grammar of URIs

  pub reference_is_uri_reference : (bytes : Text) → InUtf8 (IsUriReference set) bytes → InUtf8 (IsUriReference uri_chars) (mapped bytes)
  reference_is_uri_reference bytes h =
      let z = (in_utf8-reference set above bytes).0 h in
      (in_utf8-reference uri_chars uri_above_ascii (mapped bytes)).1 (mapped_reference z.0, readable_mapped set above z.0 z.1, spell-mapped z.0 ∙ ap mapped z.2)

  still_some : (o : Option Text) → IsSome o → IsSome (option_map mapped o)
  still_some None h = h
  still_some (Some t) h = h

  pub iri_is_uri : (bytes : Text) → InUtf8 (IsUri set) bytes → InUtf8 (IsUri uri_chars) (mapped bytes)
  iri_is_uri bytes h =
      let z = (in_utf8-full set above bytes).0 h in
      (in_utf8-full uri_chars uri_above_ascii (mapped bytes)).1 (mapped_reference z.0, readable_mapped set above z.0 z.1, still_some z.0.scheme z.2, spell-mapped z.0 ∙ ap mapped z.3)

  pub uri_is_reference : (bytes : Text) → InUtf8 (IsUri set) bytes → InUtf8 (IsUriReference set) bytes
  uri_is_reference bytes h = let z = (in_utf8-full set above bytes).0 h in (in_utf8-reference set above bytes).1 (z.0, z.1, z.3)

  -- ---- what is read

  pub readable_text : (bytes : Text) → InUtf8 (IsUriReference set) bytes → IsReadable set (read_reference bytes)
  unfolding is_reference
  readable_text bytes h = (Decides-is_readable set above (read_reference bytes)).0 ((Decides-is_uri_reference set above bytes).1 h)

  pub read_reference-mapped : (bytes : Text) → InUtf8 (IsUriReference set) bytes → read_reference (mapped bytes) ≡ mapped_reference (read_reference bytes)
  read_reference-mapped bytes h =
      let r = read_reference bytes in
      ap read_reference (ap mapped (sym (read_reference-spelled bytes)) ∙ sym (spell-mapped r))
      ∙ reference_read uri_chars uri_above_ascii (mapped_reference r) (readable_mapped set above r (readable_text bytes h))

  -- ---- equality

  pub key-mapped_text : (bytes : Text) → InUtf8 (IsUriReference set) bytes → key (read_reference (mapped bytes)) ≡ key (read_reference bytes)
  key-mapped_text bytes h = ap key (read_reference-mapped bytes h) ∙ key-mapped set above (read_reference bytes) (readable_text bytes h)

  pub are_alike-mapped : (a b : Text) → InUtf8 (IsUriReference set) a → InUtf8 (IsUriReference set) b
      → are_alike (read_reference (mapped a)) (read_reference (mapped b)) ≡ are_alike (read_reference a) (read_reference b)
  are_alike-mapped a b h k = λ i. is_eq (key_cmp (key-mapped_text a h i) (key-mapped_text b k i))

  pub AreAlike-mapped : (a b : Text) → InUtf8 (IsUriReference set) a → InUtf8 (IsUriReference set) b
      → AreAlike (read_reference (mapped a)) (read_reference (mapped b)) ↔ AreAlike (read_reference a) (read_reference b)
  AreAlike-mapped a b h k = grind (arith, common_steps, key-mapped_text)

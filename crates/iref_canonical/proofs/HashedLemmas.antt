-- What is hashed of a reference, and of a path alone, determines its key.
use Rattle.std.proofs.Common.{◌≡◌, true, refl, sym, ◌∙◌, ap, subst}
use Rattle.std.specs.List.{list_all}
use Rattle.iref_grammar.specs.{Characters.{CharTests, AreAboveAscii, uri_chars, uri_above_ascii}, Grammar.{IsSegment}}
use Rattle.iref_grammar.specs.{PathValue.{PathValue}, Reference.{ReferenceValue, IsReadable}, Rules.{InUtf8}}
use Rattle.iref_grammar.specs.Tests.{is_segment}
use Rattle.iref_grammar.proofs.{LeafLemmas.{Decides-is_segment}, PartRuleLemmas.{Decides-all}}
use Rattle.iref_grammar.proofs.ReferenceRuleLemmas.{Decides-is_readable, one_spelling}
use Rattle.iref_grammar.specs.{Key.{key}, Mapping.{mapped}, NormalList.{normal_segments}, PathKey.{path_key}}
use Rattle.iref_grammar.proofs.{NormalGrammarLemmas.{takes_dots}, SettledLemmas.{lone-normal}}
use Rattle.iref_grammar.proofs.StepSegmentLemmas.{normal-in}
use Rattle.iref_splice.specs.Fed.{IsSelfDelimiting}
use Rattle.iref_splice.proofs.DelimitLemmas.{text-delimits}
use Rattle.iref_canonical.specs.Canonical.{canonical, canonical_text, hashed_text}
use Rattle.iref_canonical.specs.Hashed.{fed_lone_path, fed_reference, IsPathKey, IsReadableKey, path_alone}
use Rattle.iref_canonical.proofs.HashedTextLemmas.{hashed-mapped, hashed-unended}
use Rattle.iref_canonical.proofs.CanonicalKeyLemmas.{IsKey, decoded_items, decoded_some, is_key, key-canonical, readable-canonical}

-- ---- of keys of readable references

readable : (k : ReferenceValue) → IsKey k → IsReadable uri_chars (canonical k)
readable k h = (Decides-is_readable uri_chars uri_above_ascii (canonical k)).0 (readable-canonical k h)

-- the canonical text tells the key, and so does the text that is hashed
canonical_tells : (k l : ReferenceValue) → IsKey k → IsKey l → canonical_text k ≡ canonical_text l → k ≡ l
canonical_tells k l h j e =
    sym (key-canonical k h) ∙ ap key (one_spelling uri_chars uri_above_ascii (canonical k) (canonical l) (readable k h) (readable l j) e) ∙ key-canonical l j

one_text : (k l : ReferenceValue) → IsKey k → IsKey l → hashed_text k ≡ hashed_text l → k ≡ l
one_text k l h j e = canonical_tells k l h j (sym (hashed-mapped k h) ∙ ap mapped e ∙ hashed-mapped l j)

keys-delimit : IsSelfDelimiting IsKey fed_reference
unfolding fed_reference
keys-delimit k l h j r s e =
    let both = text-delimits (hashed_text k) (hashed_text l) (hashed-unended k h) (hashed-unended l j) r s e in
    (one_text k l h j both.0, both.1)

pub reference-delimits : IsSelfDelimiting IsReadableKey fed_reference
reference-delimits k l h j =
    keys-delimit k l (subst IsKey h.same (is_key h.tests h.above h.value h.readable)) (subst IsKey j.same (is_key j.tests j.above j.value j.readable))

-- ---- of paths alone

module _ (set : CharTests) (above : AreAboveAscii set) (p : PathValue) (segments : list_all (is_segment set) p.segments ≡ true) where
  path_is_key : IsKey (path_alone (path_key p))
  unfolding path_key
  path_is_key =
      let normal = normal-in (is_segment set) (takes_dots set) p segments in
      record {
        scheme = refl;
        lower = refl;
        authority = tt;
        items = decoded_items (IsSegment set) (normal_segments p) ((Decides-all (is_segment set) (InUtf8 (IsSegment set)) (Decides-is_segment set above) (normal_segments p)).0 normal);
        some = decoded_some (normal_segments p) (lone-normal p);
        follows = refl;
        query = tt;
        fragment = tt;
      }

key_of_path : (k : PathValue) → IsPathKey k → IsKey (path_alone k)
key_of_path k h = subst (λ p. IsKey (path_alone p)) h.same (path_is_key h.tests h.above h.path h.segments)

pub path-delimits : IsSelfDelimiting IsPathKey fed_lone_path
path-delimits k l h j r s e =
    let both = keys-delimit (path_alone k) (path_alone l) (key_of_path k h) (key_of_path l j) r s e in
    (ap (λ (v : ReferenceValue). v.path) both.0, both.1)

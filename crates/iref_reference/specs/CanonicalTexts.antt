-- Texts of canonical references.
use Rattle.std.specs.Prelude.{◌≡◌, Bool, bytes_eq}
use Rattle.iref_grammar.specs.{Reference.{ReferenceValue, read_reference}, Rules.{Text}}
use Rattle.iref_grammar.specs.Key.{key}
use Rattle.iref_canonical.specs.Canonical.{canonical_text}

-- the text is the canonical text of a key, and is read as a reference of this key
abbrev pub IsCanonicalTextOf : ReferenceValue → Text → Type 0
IsCanonicalTextOf kept text = (text ≡ canonical_text kept) × (key (read_reference text) ≡ kept)

-- two values are equal exactly if their canonical texts are the same bytes
abbrev pub AreEqualByTexts : {V : Type 0} → (V → ReferenceValue) → (V → V → Bool) → Type 0
AreEqualByTexts {V} key_of equal =
    (a b : V) (s t : Text) → IsCanonicalTextOf (key_of a) s → IsCanonicalTextOf (key_of b) t → equal a b ≡ bytes_eq s t

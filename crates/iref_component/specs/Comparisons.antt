-- What texts are compared by, and what it is that a type compares by it.
use Rattle.std.specs.{Prelude.{◌≡◌, true, ◌↔◌, ℕ, List, ◌++◌}, BTreeMap.Lent.{OrdMembers}, Cmp.{IsTotalOrder}, List.{concat}}
use Rattle.std.specs.{Cmp.Lexicographic.{nat_list_cmp_total}, Hash.{HashWrites}, HashMap.Lent.{HashMembers}}
use Rattle.std.specs.{Ordering.{is_eq}, declared.cmp.Ordering.{Ordering}}
use Rattle.iref_grammar.specs.{Authority.{AuthorityValue, read_authority}, Keys.{text_order}}
use Rattle.iref_grammar.specs.{PathValue.{PathValue, read_path}, Rules.{Text}}
use Rattle.iref_grammar.specs.AuthorityKey.{authority_key, authority_key_cmp, authority_keys_total}
use Rattle.iref_grammar.specs.PathKey.{path_key, path_key_cmp, path_keys_total}
use Rattle.iref_grammar.proofs.KeyOrderLemmas.{authority_keys_separate, path_keys_separate, texts_separate}
use Rattle.iref_splice.specs.Fed.{IsSelfDelimiting}
use Rattle.iref_canonical.specs.{Hashed.{fed_lone_path, IsPathKey}, HashedParts.{fed_authority, fed_part, IsAny}}
use Rattle.iref_canonical.proofs.{HashedLemmas.{path-delimits}, HashedPartLemmas.{authority-delimits, part-delimits}}

-- the key of a text, the order of keys, and what is hashed of a key; the order is total, keys that differ differ in the order, and
-- keys of readable texts that differ differ in the bytes that are hashed
pub record Comparison : Type 1 where
  pub Kept : Type 0
  pub key : Text → Kept
  pub order : Kept → Kept → Ordering
  pub fed : Kept → HashWrites
  pub Known : Kept → Type 0
  pub total : IsTotalOrder order
  pub separates : (k l : Kept) → is_eq (order k l) ≡ true → k ≡ l
  pub delimits : IsSelfDelimiting Known fed

-- by a key that is a text: by its bytes
abbrev pub by_text : (Text → Text) → Comparison
by_text key = record { Kept = Text; key = key; order = text_order; fed = fed_part; Known = IsAny; total = nat_list_cmp_total; separates = texts_separate; delimits = part-delimits }

-- Values are equal exactly where their keys are the same, and in the order of the keys. The key is hashed, and of known keys, as
-- those of readable texts are, the bytes determine the key: values that are not equal feed different bytes.
abbrev pub ComparesBy : {V K : Type 0} → (V → K) → (K → K → Ordering) → (K → Type 0) → (K → HashWrites) → OrdMembers V → HashMembers V → Type 0
ComparesBy {V} key order known fed ord hash =
    ((a b : V) → (ord.eq a b ≡ true) ↔ (key a ≡ key b))
    × ((a b : V) → ord.cmp a b ≡ order (key a) (key b))
    × ((v : V) → hash.hash_input v ≡ fed (key v))
    × IsSelfDelimiting known fed

-- the keys of all values are known
abbrev pub AreKnown : {V K : Type 0} → (V → K) → (K → Type 0) → HashMembers V → Type 0
AreKnown {V} key known hash = (v : V) → known (key v)

-- A hasher reads the same bytes of two values, each with other bytes behind it, only if their keys are the same, and those other bytes.
abbrev pub AreFedApart : {V W K : Type 0} → (V → K) → (W → K) → HashMembers V → HashMembers W → Type 0
AreFedApart {V} {W} key other_key hash other_hash =
    (v : V) (w : W) (r s : List ℕ) → concat (hash.hash_input v) ++ r ≡ concat (other_hash.hash_input w) ++ s → (key v ≡ other_key w) × (r ≡ s)

-- authorities: user info and host as decoded bytes, the port as text
abbrev pub by_parts : Comparison
by_parts = record { Kept = AuthorityValue; key = λ text. authority_key (read_authority text); order = authority_key_cmp; fed = fed_authority; Known = IsAny; total = authority_keys_total; separates = authority_keys_separate; delimits = authority-delimits }

-- paths: whether they are absolute, and their normal segments as decoded bytes
abbrev pub by_segments : Comparison
by_segments = record { Kept = PathValue; key = λ text. path_key (read_path text); order = path_key_cmp; fed = fed_lone_path; Known = IsPathKey; total = path_keys_total; separates = path_keys_separate; delimits = path-delimits }

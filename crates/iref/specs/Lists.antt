-- Lists of references that are sorted, or made unique.
use Rattle.std.specs.Prelude.{◌≡◌, ℕ, List, [], ◌∷◌, ◌++◌, fold, length, map, if◌then◌else◌}
use Rattle.std.specs.{List.{All, dedup, flat_map, list_any}, List.Sorted.{IsPermutation, IsSorted, IsStable}}
use Rattle.std.specs.Ordering.{eq_by_cmp, on}
use Rattle.iref_grammar.specs.{Reference.{ReferenceValue, read_reference}, Rules.{Text}}
use Rattle.iref_grammar.specs.Key.{are_alike, key, key_cmp}

-- what a reference is compared by
abbrev pub key_of_text : Text → ReferenceValue
key_of_text text = key (read_reference text)

-- the keys of these references stand one after the other, and beside each reference is the length of its key
pub record AreKeysOf {R M : Type 0} (key : R → Text) (reference : M → R) (len : M → ℕ) (references : List R) (buffer : Text) (measured : List M) : Type 0 where
  pub keys : buffer ≡ flat_map key references
  pub same : map reference measured ≡ references
  pub lengths : All (λ m. len m ≡ length (key (reference m))) measured

-- the texts in the order of their keys, those with one key in the order in which they stand, and of these the first alone
pub record IsSortedUnique (texts kept : List Text) : Type 0 where
  pub sorted : List Text
  pub same : IsPermutation texts sorted
  pub order : IsSorted (on key_of_text key_cmp) sorted
  pub stable : IsStable (on key_of_text key_cmp) texts sorted
  pub unique : kept ≡ dedup (on key_of_text (eq_by_cmp key_cmp)) sorted

-- one more reference, unless an equal one is there
abbrev pub with_new : List ReferenceValue → ReferenceValue → List ReferenceValue
with_new kept r = if list_any (λ k. are_alike k r) kept then kept else kept ++ r ∷ []

-- of references that are equal the first
abbrev pub firsts : List ReferenceValue → List ReferenceValue
firsts references = fold with_new [] references

-- What a cache has for each URI.
use Rattle.std.specs.Prelude.{◌≡◌, List, map, IsSome, Option, Some, String, string_bytes, if◌then◌else◌}
use Rattle.std.specs.{HashMap.{HashMap}, Map.{lookup}, Str.{bytes_eq}}
use Rattle.iref.specs.{Canonical.{canonical_text}, Characters.{uri_chars}, Key.{are_alike, key}}
use Rattle.iref.specs.{Reference.{IsReadable, ReferenceValue, read_reference}, Rules.{Text}}

-- the texts of a map, each with its value
abbrev pub entries_of : {A V S : Type 0} → HashMap (String A) V S → List (Text × V)
entries_of values = map (λ e. (string_bytes e.0, e.1)) values.entries

module _ {V : Type 0} where
  -- what stands under the canonical text of the URI that is read as this
  abbrev pub found : List (Text × V) → ReferenceValue → Option V
  found cache uri = lookup (bytes_eq (canonical_text (key uri))) cache

  -- each text that has a value is its own canonical text
  abbrev pub HasCanonicalKeys : List (Text × V) → Type 0
  HasCanonicalKeys cache = (text : Text) → IsSome (lookup (bytes_eq text) cache) → text ≡ canonical_text (key (read_reference text))

  -- each spelling of the URI finds what was put, and any other URI what it found before
  abbrev pub HasPut : List (Text × V) → List (Text × V) → ReferenceValue → V → Type 0
  HasPut old new uri put = (other : ReferenceValue) → IsReadable uri_chars other → found new other ≡ (if are_alike uri other then Some put else found old other)

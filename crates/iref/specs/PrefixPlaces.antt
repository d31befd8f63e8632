-- The entries that a prefix table has, of all that were ever added to it.
use Rattle.std.specs.Prelude.{◌≡◌, ℕ, ◌<◌, ◌≤◌, ◌==◌, ◌||◌, Bool, true, false, List, [], ◌∷◌, ◌++◌, length, slice_index_or, nat_lt, bytes_eq, Option, Some, None}
use Rattle.std.specs.{BTreeSet.{contains}, Vec.{vec_len, vec_capacity}, Ordering.{nat_cmp, ordering_then}}
use Rattle.iref_grammar.specs.Rules.{Text}
use Rattle.iref.specs.PrefixTable.{PrefixEntry, PrefixTable}
use Rattle.iref.specs.PrefixTree.{all_of, keys_of, lead_at, leads_of, places_of, text_at, place_at, HasRoom, IsFirst, IsFirstOf, IsLed, IsTree}
use Rattle.iref.specs.{declared.compact.entry.Entries.{Entries}, declared.compact.entry.Key.TheVariants.{Label, Iri}}
use Rattle.iref.specs.{declared.compact.entry.Lead.{Lead}, declared.compact.shared.Shared.{Shared}}
use Rattle.iref.specs.{declared.compact.table.Added.{Added}, declared.compact.table.Held.{Held}}
use Rattle.iref.specs.{declared.compact.table.Table.{Table}, declared.compact.tree.Tree.{Tree}}

abbrev pub entry_at : PrefixTable → ℕ → PrefixEntry
entry_at all n = slice_index_or all n (record { label = []; iri = [] })

-- the entries at these places
unfoldable pub entries_at : PrefixTable → List (Option ℕ) → PrefixTable
entries_at all [] = []
entries_at all (None ∷ places) = entries_at all places
entries_at all (Some n ∷ places) = entry_at all n ∷ entries_at all places

abbrev pub table_of : Entries → PrefixTable
table_of entries = entries_at (all_of entries) (places_of entries)

-- the numbers at the places are those of entries
abbrev pub AreWithin : PrefixTable → List (Option ℕ) → Type 0
AreWithin all places = (p n : ℕ) → place_at places p ≡ Some n → n < length all

-- ---- the places of the entries that have one IRI

-- whether this place is one of the IRI of this number
abbrev pub holds : Shared → ℕ → ℕ → Bool
holds shared m p = contains (λ x y. ordering_then (nat_cmp x.0 y.0) (nat_cmp x.1 y.1)) shared.pairs (m, p)

-- whether the place is the first one, and whether it is behind it
abbrev pub is_at : Option ℕ → ℕ → Bool
is_at None p = false
is_at (Some first) p = p == first

abbrev pub is_behind : Option ℕ → ℕ → Bool
is_behind None p = false
is_behind (Some first) p = nat_lt first p

-- whether an entry of this text stands at the place
abbrev pub stands_there : List Text → Text → Option ℕ → Bool
stands_there texts t None = false
stands_there texts t (Some n) = bytes_eq (text_at texts n) t

-- the first place, and those behind it that are held
pub record ArePlaces (shared : Shared) (m : ℕ) (first : Option ℕ) (h : ℕ → Bool) : Type 0 where
  pub each : (p : ℕ) → h p ≡ (is_at first p || holds shared m p)
  pub behind : (p : ℕ) → holds shared m p ≡ true → is_behind first p ≡ true

abbrev pub first_of : Option Lead → Option ℕ
first_of None = None
first_of (Some lead) = Some lead.place

-- of the first entry of each text the places of the entries of that text, and no others
pub record IsShared (texts : List Text) (places : List (Option ℕ)) (leads : List (Option Lead)) (shared : Shared) : Type 0 where
  pub first : (m : ℕ) → IsFirst texts m → ArePlaces shared m (first_of (lead_at leads m)) (λ p. stands_there texts (text_at texts m) (place_at places p))
  pub past : (m p : ℕ) → length texts ≤ m → holds shared m p ≡ false

-- to a place where this entry stands, if one does
abbrev pub lead_there : ℕ → Option ℕ → Option Lead
lead_there p None = None
lead_there p (Some n) = Some (record { place = p; number = n })

-- to the entry at a place
abbrev pub lead_to : List (Option ℕ) → Option ℕ → Option Lead
lead_to places None = None
lead_to places (Some p) = lead_there p (place_at places p)

-- ---- a table

-- no label stands at two places
abbrev pub IsOnce : List Text → List (Option ℕ) → Type 0
IsOnce labels places = (p q m n : ℕ) → place_at places p ≡ Some m → place_at places q ≡ Some n → text_at labels m ≡ text_at labels n → p ≡ q

-- how many entries have places, and how the entries are found
pub record IsBook (all : PrefixTable) (places : List (Option ℕ)) (label_leads iri_leads : List (Option Lead)) (len : ℕ) (by_label by_iri : Tree) (pairs : Shared) : Type 0 where
  pub within : AreWithin all places
  pub once : IsOnce (keys_of Label all) places
  pub counted : len ≡ length (entries_at all places)
  pub labels : IsTree (keys_of Label all) by_label
  pub labels_led : IsLed (keys_of Label all) places label_leads
  pub iris : IsTree (keys_of Iri all) by_iri
  pub iris_led : IsLed (keys_of Iri all) places iri_leads
  pub shared : IsShared (keys_of Iri all) places iri_leads pairs

abbrev pub IsTable : Table → Type 0
IsTable table = IsBook (all_of table.entries) (places_of table.entries) (leads_of Label table.entries) (leads_of Iri table.entries) table.len table.labels table.iris table.shared

-- room for one more entry
pub record IsRoomy (table : Table) : Type 0 where
  pub entries : vec_len table.entries.rows < vec_capacity table.entries.rows
  pub labels : HasRoom table.labels
  pub iris : HasRoom table.iris

-- the entry of a label, and the first numbers of its label and of its IRI
pub record IsHeld (entries : Entries) (text : Text) (held : Held) : Type 0 where
  pub stands : place_at (places_of entries) held.lead.place ≡ Some held.lead.number
  pub is : text_at (keys_of Label (all_of entries)) held.lead.number ≡ text
  pub label : IsFirstOf (keys_of Label (all_of entries)) text held.label
  pub iri : IsFirstOf (keys_of Iri (all_of entries)) (text_at (keys_of Iri (all_of entries)) held.lead.number) held.iri

-- one more entry, which stands at no place, and the first numbers of its label and of its IRI
pub record IsAddedTo (old new : Entries) (e : PrefixEntry) (added : Added) : Type 0 where
  pub all : all_of new ≡ all_of old ++ e ∷ []
  pub places : places_of new ≡ places_of old ++ None ∷ []
  pub number : added.number ≡ length (all_of old)
  pub label : IsFirstOf (keys_of Label (all_of new)) e.label added.label
  pub iri : IsFirstOf (keys_of Iri (all_of new)) e.iri added.iri

-- URIs in the order of their sort keys, and those of them that are below another; `value` is what a URI is read as.
use Rattle.std.specs.{Prelude.{◌≡◌, List, Some, is_some, if◌then◌else◌}, BTreeMap.{BTreeMap, get}}
use Rattle.std.specs.List.{AllByRecursion, filter}
use Rattle.iref.specs.{Key.{are_alike, key}, Keys.{text_order}, Reference.{ReferenceValue}}
use Rattle.iref.specs.{ReferenceSuffix.{reference_suffix}, Rules.{Text}, SortKey.{sort_key}}

-- those that have a suffix after the first, in the order of the list
abbrev pub all_below : ReferenceValue → List ReferenceValue → List ReferenceValue
all_below above references = filter (λ r. is_some (reference_suffix above r)) references

module _ {U : Type 0} (value : U → ReferenceValue) where
  -- each URI of the map stands under its sort key
  abbrev pub AreUnderTheirKeys : BTreeMap Text U → Type 0
  AreUnderTheirKeys index = AllByRecursion (λ e. e.0 ≡ sort_key (key (value e.1))) index.entries

  -- each spelling of the URI finds what was added, and any other URI what it found before
  abbrev pub HasAdded : BTreeMap Text U → BTreeMap Text U → U → Type 0
  HasAdded old new added =
      (r : ReferenceValue) → get text_order new (sort_key (key r)) ≡ (if are_alike (value added) r then Some added else get text_order old (sort_key (key r)))

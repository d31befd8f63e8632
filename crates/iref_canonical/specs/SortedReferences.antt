-- The sort key of a reference that is measured before it is written.
use Rattle.std.specs.{Prelude.{◌≡◌, true, option_map}, Option.{option_copied}, Str.{str_to_ascii_lowercase}}
use Rattle.percent_encoding.specs.Percent.{percent_decode}
use Rattle.iref_grammar.specs.{Authority.{AuthorityValue, read_authority}, Reference.{ReferenceValue}, Rules.{Text}}
use Rattle.iref_grammar.specs.AuthorityKey.{authority_key}
use Rattle.iref_canonical.specs.{declared.sort_key.SortedReference.{SortedReference}, SortItems.{AreItems, items_of}}
use Rattle.iref_canonical.specs.SortPuts.{AreKeptSlices}

-- the key of an authority's text
abbrev pub key_of_authority : Text → AuthorityValue
key_of_authority text = authority_key (read_authority text)

-- the key that is written
abbrev pub sorted_key : SortedReference → ReferenceValue
sorted_key s = record {
  scheme = option_map str_to_ascii_lowercase (option_copied s.slices.scheme);
  authority = option_map key_of_authority (option_copied s.slices.authority);
  path = record { absolute = s.absolute; segments = items_of s.items };
  query = option_map percent_decode (option_copied s.slices.query);
  fragment = option_map percent_decode (option_copied s.slices.fragment);
}

-- what writes it can rely on
pub record IsSorted (s : SortedReference) : Type 0 where
  pub items : AreItems s.items
  pub kept : s.kept ≡ true → AreKeptSlices s.slices

-- What proofs see of the slices of a reference.
use Rattle.std.specs.Option.{option_copied}
use Rattle.iref_parse.specs.declared.split.ReferenceSlices.{ReferenceSlices}
use Rattle.iref_grammar.specs.{ComponentTexts.{ComponentTexts, read_components}, Reference.{ReferenceValue}}

-- their texts
abbrev pub texts_of : ReferenceSlices → ComponentTexts
texts_of s = record {
  scheme = option_copied s.scheme;
  authority = option_copied s.authority;
  path = s.path.now;
  query = option_copied s.query;
  fragment = option_copied s.fragment;
}

-- the reference that they show
abbrev pub value_of : ReferenceSlices → ReferenceValue
value_of s = read_components (texts_of s)

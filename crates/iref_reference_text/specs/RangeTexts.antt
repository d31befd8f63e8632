-- What stands at offsets in a text.
use Rattle.std.specs.Prelude.{IfSome, option_map}
use Rattle.iref_splice.specs.Changes.{IsWithin}
use Rattle.iref_grammar.specs.{declared.offsets.Offsets.{Offsets}, Rules.{Text}, ComponentTexts.{ComponentTexts}}
use Rattle.iref_grammar.specs.ComponentOffsets.{text_at}

-- each range lies in the text, and begins and ends between characters
pub record AreWithin (text : Text) (offsets : Offsets) : Type 0 where
  pub scheme : IfSome offsets.scheme (IsWithin text)
  pub authority : IfSome offsets.authority (IsWithin text)
  pub path : IsWithin text offsets.path
  pub query : IfSome offsets.query (IsWithin text)
  pub fragment : IfSome offsets.fragment (IsWithin text)

-- what stands in each range
abbrev pub texts_at : Text → Offsets → ComponentTexts
texts_at text offsets = record {
  scheme = option_map (text_at text) offsets.scheme;
  authority = option_map (text_at text) offsets.authority;
  path = text_at text offsets.path;
  query = option_map (text_at text) offsets.query;
  fragment = option_map (text_at text) offsets.fragment;
}

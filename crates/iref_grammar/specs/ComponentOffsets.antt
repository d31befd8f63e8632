-- Where the components of a reference stand in its text, in bytes.
use Rattle.std.specs.{Prelude.{ℕ, ◌+◌, [], ◌∷◌, length, codes, option_map}, List.{slice_range}}
use Rattle.std.specs.declared.ops.Range.{Range}
use Rattle.iref_grammar.specs.{declared.offsets.Offsets.{Offsets}, Rules.{Text}, Grammar.{colon, question_mark}}
use Rattle.iref_grammar.specs.{Texts.{part_then, then_part}, Authority.{spell_authority}, PathValue.{spell_path}}
use Rattle.iref_grammar.specs.Reference.{ReferenceValue, read_reference}

-- a part that begins at start
abbrev pub range_from : ℕ → Text → Range ℕ
range_from start part = record { start = start; end = start + length part }

-- what stands before the `//`, the path, the `?` and the `#`
abbrev pub authority_mark : ReferenceValue → ℕ
authority_mark r = length (part_then (colon ∷ []) r.scheme)

abbrev pub path_start : ReferenceValue → ℕ
path_start r = authority_mark r + length (then_part (codes "//") (option_map spell_authority r.authority))

abbrev pub query_mark : ReferenceValue → ℕ
query_mark r = path_start r + length (spell_path r.path)

abbrev pub fragment_mark : ReferenceValue → ℕ
fragment_mark r = query_mark r + length (then_part (question_mark ∷ []) r.query)

-- the components of a reference where it is spelled (RFC 3986 section 5.3)
unfoldable pub offsets_in : ReferenceValue → Offsets
offsets_in r = record {
  scheme = option_map (range_from 0) r.scheme;
  authority = option_map (range_from (authority_mark r + 2)) (option_map spell_authority r.authority);
  path = range_from (path_start r) (spell_path r.path);
  query = option_map (range_from (query_mark r + 1)) r.query;
  fragment = option_map (range_from (fragment_mark r + 1)) r.fragment;
}

-- the components that are read from a text
unfoldable pub offsets_of : Text → Offsets
offsets_of text = offsets_in (read_reference text)

-- what stands there in a text
abbrev pub text_at : Text → Range ℕ → Text
text_at text range = slice_range text range.start range.end

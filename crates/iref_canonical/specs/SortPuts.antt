-- Sort keys of texts whose bytes stand in them as they are, put from the front.
use Rattle.std.specs.Prelude.{◌≡◌, ℕ, ◌+◌, true, ◌==◌, [], ◌∷◌, ◌++◌, length, option_map, take, codes, if◌then◌else◌}
use Rattle.std.specs.{List.{flat_map}, Option.{option_copied}, Str.{str_to_ascii_lowercase}}
use Rattle.iref_grammar.specs.{Authority.{read_authority}, Grammar.{colon, hash_sign, question_mark, slash}}
use Rattle.iref_grammar.specs.{PathValue.{read_path}, Reference.{ReferenceValue}, Rules.{Text}, Tests.{none_or}}
use Rattle.iref_grammar.specs.Texts.{part_then, then_part}
use Rattle.iref_parse.specs.declared.split.ReferenceSlices.{ReferenceSlices}
use Rattle.iref_canonical.specs.SortBytes.{is_kept, are_kept_parts}
use Rattle.iref_canonical.specs.SortKey.{sort_authority, sort_option, sort_path, sort_text}

-- a text is put at an index and ends there, and what stands before it stays
pub record Puts (at : ℕ) (text old new : Text) (end : ℕ) : Type 0 where
  pub range : end ≡ at + length text
  pub written : take end new ≡ take at old ++ text
  pub len : length new ≡ length old

-- a byte of segments: `/` ends one and begins the next
abbrev pub segment_byte : ℕ → Text
segment_byte b = if b == slash then 0 ∷ 1 ∷ [] else b ∷ []

abbrev pub segment_bytes : Text → Text
segment_bytes text = flat_map segment_byte text

-- the reference with its scheme in lower case
abbrev pub lowered : ReferenceValue → ReferenceValue
lowered r = record {
  scheme = option_map str_to_ascii_lowercase r.scheme;
  authority = r.authority;
  path = r.path;
  query = r.query;
  fragment = r.fragment;
}

-- ---- components from one on, as they are spelled and as the sort key has them

abbrev pub spelled_tail : ReferenceSlices → Text
spelled_tail s = then_part (question_mark ∷ []) (option_copied s.query) ++ then_part (hash_sign ∷ []) (option_copied s.fragment)

abbrev pub sorted_tail : ReferenceSlices → Text
sorted_tail s = sort_option sort_text (option_copied s.query) ++ sort_option sort_text (option_copied s.fragment)

abbrev pub spelled_from_path : ReferenceSlices → Text
spelled_from_path s = s.path.now ++ spelled_tail s

abbrev pub sorted_from_path : ReferenceSlices → Text
sorted_from_path s = sort_path (read_path s.path.now) ++ sorted_tail s

abbrev pub spelled_from_authority : ReferenceSlices → Text
spelled_from_authority s = then_part (codes "//") (option_copied s.authority) ++ spelled_from_path s

abbrev pub sorted_from_authority : ReferenceSlices → Text
sorted_from_authority s = sort_option sort_authority (option_map read_authority (option_copied s.authority)) ++ sorted_from_path s

abbrev pub spelled_slices : ReferenceSlices → Text
spelled_slices s = part_then (colon ∷ []) (option_copied s.scheme) ++ spelled_from_authority s

abbrev pub sorted_slices : ReferenceSlices → Text
sorted_slices s = sort_option sort_text (option_map str_to_ascii_lowercase (option_copied s.scheme)) ++ sorted_from_authority s

-- each byte stands in the sort key as it is
pub record AreKeptSlices (s : ReferenceSlices) : Type 0 where
  pub scheme : none_or is_kept (option_copied s.scheme) ≡ true
  pub authority : none_or are_kept_parts (option_map read_authority (option_copied s.authority)) ≡ true
  pub path : is_kept s.path.now ≡ true
  pub query : none_or is_kept (option_copied s.query) ≡ true
  pub fragment : none_or is_kept (option_copied s.fragment) ≡ true

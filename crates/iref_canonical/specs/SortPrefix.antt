-- What the sort keys of a reference and of all below it begin with, and the range in which they stand.
use Rattle.std.specs.{Prelude.{Bool, ◌&&◌, [], ◌∷◌, ◌++◌, if◌then◌else◌}, List.{flat_map}, Ordering.{is_le, is_lt}}
use Rattle.iref_grammar.specs.{Keys.{text_order}, PathValue.{PathValue}, Reference.{ReferenceValue}, Rules.{Text}}
use Rattle.iref_canonical.specs.SortKey.{sort_authority, sort_item, sort_option, sort_text}

-- whether the path is absolute, and its items, which more can follow
unfoldable pub sort_path_prefix : PathValue → Text
sort_path_prefix p = (if p.absolute then 1 else 0) ∷ flat_map sort_item p.segments

-- the sort key of a key up to its last item, without what ends the list, the query and the fragment
unfoldable pub sort_prefix : ReferenceValue → Text
sort_prefix k = sort_option sort_text k.scheme ++ sort_option sort_authority k.authority ++ sort_path_prefix k.path

-- the first text that is behind all of them: in a sort key 0 or 1 follows an item
abbrev pub sort_prefix_end : ReferenceValue → Text
sort_prefix_end k = sort_prefix k ++ 2 ∷ []

-- a text stands from the first of two up to, and without, the second
abbrev pub is_between : Text → Text → Text → Bool
is_between from end text = is_le (text_order from text) && is_lt (text_order text end)

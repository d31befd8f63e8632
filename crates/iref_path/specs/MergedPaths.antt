-- The segments of two texts that are read as one (RFC 3986 section 5.2.3).
use Rattle.std.specs.{Prelude.{Bool, true, ◌&&◌, List, ◌++◌, Option, if◌then◌else◌}, Borrow.{Bor}}
use Rattle.iref_grammar.specs.{Rules.{Text}, Texts.{all_but_last, is_empty}, PathValue.{PathValue}}
use Rattle.iref_grammar.specs.NormalReading.{staying_before}
use Rattle.iref_path.specs.Pieces.{pieces_if_some}

-- the segments of both texts
abbrev pub merged_list : Option (Bor Text) → Option (Bor Text) → List Text
merged_list front back = pieces_if_some front ++ pieces_if_some back

-- the names that stay of them
abbrev pub both_names : Option (Bor Text) → Option (Bor Text) → List Text
both_names front back = staying_before (merged_list front back) 0

-- the path of these segments
abbrev pub merged_path : Bool → Option (Bor Text) → Option (Bor Text) → PathValue
merged_path absolute front back = record { absolute = absolute; segments = merged_list front back }

-- the path of a base without its last segment, then a relative path (section 5.2.3); an absolute path stays
abbrev pub path_after : Bool → PathValue → PathValue → PathValue
path_after has_authority base p =
    if p.absolute then p
    else (if has_authority && is_empty base.segments
    then record { absolute = true; segments = p.segments }
    else record { absolute = base.absolute; segments = all_but_last base.segments ++ p.segments })

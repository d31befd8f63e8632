-- What is asked of a path, and nothing changes (RFC 3986 section 3.3).
use Rattle.std.specs.Prelude.{ℕ, ◌-◌, Bool, not, ◌&&◌, ◌||◌, ◌==◌, [], ◌∷◌, length, take, slice_get, Option, Some, None, unwrap_or, if◌then◌else◌}
use Rattle.std.specs.{Option.{option_and_then}, List.{last_or, suffix_len}, Char.{char_set_contains}}
use Rattle.iref_grammar.specs.{Rules.{Text}, Grammar.{slash, colon}, Texts.{before, is_empty, all_but_last}}
use Rattle.iref_grammar.specs.{Tests.{is_scheme}, PathValue.{PathValue}}
use Rattle.iref_grammar.specs.{Guard.{guarded_list}, NormalList.{closed}}

-- how many segments the path has
abbrev pub segment_count : PathValue → ℕ
segment_count p = length p.segments

-- the first segment
abbrev pub first : PathValue → Option Text
first p = slice_get p.segments 0

-- the last segment
abbrev pub last : PathValue → Option Text
last p = last_or None p.segments

abbrev pub unless_empty : Text → Option Text
unless_empty s = if is_empty s then None else Some s

-- the last segment unless it is empty
unfoldable pub file_name : PathValue → Option Text
file_name p = option_and_then unless_empty (last p)

-- the path without its last segment, but with the `/` before that: where the list is not empty, it ends in an empty segment
unfoldable pub directory : PathValue → PathValue
directory p = record p { segments = closed (all_but_last p.segments) }

-- the same of a path's text: all up to and with the last `/`, so nothing where there is none
unfoldable pub directory_text : Text → Text
directory_text text = take (length text - suffix_len (λ c. not (c == slash)) text) text

-- the path without its last segment, guarded as a list
abbrev pub without_last : PathValue → PathValue
without_last p = guarded_list (record p { segments = all_but_last p.segments })

-- an empty list has no parent, nor has one relative segment
abbrev pub has_parent : PathValue → Bool
has_parent p = not (is_empty p.segments) && (p.absolute || not (is_empty (all_but_last p.segments)))

-- the path without its last segment, if it has a parent
unfoldable pub parent : PathValue → Option PathValue
parent p = if has_parent p then Some (without_last p) else None

-- the parent, or else the empty path of the same flag
unfoldable pub parent_or_empty : PathValue → PathValue
parent_or_empty p = unwrap_or (parent p) (record p { segments = [] })

-- of the text of a path or a segment: what stands before its first `:` is a scheme
unfoldable pub looks_like_scheme : Text → Bool
looks_like_scheme text = char_set_contains text colon && is_scheme (before (colon ∷ []) text)

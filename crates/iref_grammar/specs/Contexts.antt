-- What stands before a path, and which paths may stand there (RFC 3986 sections 3.3 and 4.2).
use Rattle.std.specs.Prelude.{Bool, false, not, ◌&&◌, ◌||◌, if◌then◌else◌, codes, List, [], ◌∷◌}
use Rattle.std.specs.{Char.{char_set_contains}, List.{list_all}}
use Rattle.iref_grammar.specs.{declared.context.PathContext.{PathContext}, Characters.{CharTests}, Rules.{Text}}
use Rattle.iref_grammar.specs.{Grammar.{colon}, Texts.{before, from_first, begins_with, is_empty}, Tests.{is_segment}}
use Rattle.iref_grammar.specs.PathValue.{PathValue, begins_empty, shows_its_list, read_path}

-- of a path that stands alone
abbrev pub alone : PathContext
alone = record { has_scheme = false; has_authority = false }

-- a `:` stands before the first `/`, `?` or `#`
abbrev pub begins_with_scheme : Text → Bool
begins_with_scheme bytes = char_set_contains (before (codes "/?#") bytes) colon

-- `//` stands first, or right after that `:`
abbrev pub has_slashes : Text → Bool
has_slashes bytes =
    let scheme = begins_with_scheme bytes in
    begins_with (if scheme then codes "://" else codes "//") (if scheme then from_first (colon ∷ []) bytes else bytes)

-- `PathContext::from_bytes`
unfoldable pub context_from : Text → PathContext
context_from bytes = record { has_scheme = begins_with_scheme bytes; has_authority = has_slashes bytes }

-- the first segment holds a `:`
abbrev pub begins_with_colon_segment : List Text → Bool
begins_with_colon_segment [] = false
begins_with_colon_segment (s ∷ ss) = char_set_contains s colon

-- after an authority the path is absolute or empty
abbrev pub follows_authority : PathContext → PathValue → Bool
follows_authority context p = not context.has_authority || p.absolute || is_empty p.segments

-- without an authority an absolute list does not begin with an empty segment
abbrev pub is_no_authority : PathContext → PathValue → Bool
is_no_authority context p = context.has_authority || not p.absolute || not (begins_empty p.segments)

-- without scheme and authority the first segment of a relative list holds no `:`
abbrev pub is_no_scheme : PathContext → PathValue → Bool
is_no_scheme context p = context.has_scheme || context.has_authority || p.absolute || not (begins_with_colon_segment p.segments)

-- nothing but the path is read from its text
abbrev pub reads_as_path : PathContext → PathValue → Bool
reads_as_path context p = shows_its_list p && is_no_authority context p && is_no_scheme context p

-- the path may stand in the context, and nothing else is read there
abbrev pub fits : PathContext → PathValue → Bool
fits context p = follows_authority context p && reads_as_path context p

-- and each of its segments is in its rule
abbrev pub is_readable_path : CharTests → PathContext → PathValue → Bool
is_readable_path set context p = list_all (is_segment set) p.segments && fits context p

-- the bytes are read as a path that may stand in the context
abbrev pub is_path_in : CharTests → PathContext → Text → Bool
is_path_in set context bytes = is_readable_path set context (read_path bytes)

-- Which bytes of a path stand side by side, and whether a segment begins with a dot.
use Rattle.std.specs.{Prelude.{ℕ, ◌+◌, Bool, ◌==◌, ◌&&◌, ◌||◌, List, [], ◌∷◌, false, slice_index}, List.{list_any}}
use Rattle.iref_grammar.specs.{Grammar.{slash}, Rules.{Text}, Texts.{pieces_at}}

-- the text begins with `.`
abbrev pub begins_with_dot : Text → Bool
begins_with_dot [] = false
begins_with_dot (c ∷ cs) = c == 0x2E

-- one of the segments does
abbrev pub is_some_dotted : List Text → Bool
is_some_dotted segments = list_any begins_with_dot segments

-- one of the segments of the text does, which `/` parts
abbrev pub has_dotted_segment : Text → Bool
has_dotted_segment path = is_some_dotted (pieces_at slash path)

-- the text begins with this byte
abbrev pub begins_with : ℕ → Text → Bool
begins_with byte [] = false
begins_with byte (c ∷ cs) = c == byte

-- the bytes at k and after it are these two
abbrev pub is_pair : ℕ → ℕ → Text → ℕ → Bool
is_pair first second text k = slice_index text k == first && slice_index text (k + 1) == second

-- the bytes at k and after it are `/` and `.`
abbrev pub is_slash_dot : Text → ℕ → Bool
is_slash_dot path k = is_pair slash 0x2E path k

-- these two stand side by side
abbrev pub has_pair : ℕ → ℕ → Text → Bool
has_pair first second [] = false
has_pair first second (c ∷ cs) = c == first && begins_with second cs || has_pair first second cs

-- two dots stand side by side, as they do in each `..`
abbrev pub has_dot_pair : Text → Bool
has_dot_pair text = has_pair 0x2E 0x2E text

-- The normal list of segments, written forward with a `/` after each but the last (RFC 3986 section 5.2.4).
use Rattle.std.specs.Prelude.{◌≡◌, ℕ, Bool, ◌-◌, ◌<◌, ◌≤◌, List, [], ◌∷◌, ◌++◌, drop, length, take, if◌then◌else◌}
use Rattle.iref_grammar.specs.{Grammar.{slash}, Rules.{Text}, Texts.{all_but_last, is_empty, pieces_at}}
use Rattle.iref_grammar.specs.NormalList.{is_dot_dot, is_name}
use Rattle.iref_path.specs.Spelling.{each_closed}

-- of segments with a `/` after each, all but the last
unfoldable pub popped_text : Text → Text
popped_text text = each_closed (all_but_last (pieces_at slash (take (length text - 1) text)))

-- after `.` and `..`
abbrev pub dots_followed : Text → Text → Text
dots_followed text s = if is_dot_dot s then popped_text text else text

-- after a segment with a `/` behind it
abbrev pub segment_put : Text → Text → Text
segment_put text s = if is_name s then text ++ s ++ slash ∷ [] else dots_followed text s

-- after the last segment
abbrev pub last_put : Text → Text → Text
last_put text s = if is_name s then text ++ s else dots_followed text s

-- after segments
abbrev pub forward : Text → List Text → Text
forward text [] = text
forward text (s ∷ rest) = if is_empty rest then last_put text s else forward (segment_put text s) rest

-- what is written from an index on is what follows from what stood there and a text, of which this is left to read
pub record Follows (floor : ℕ) (old new text left : Text) : Type 0 where
  pub within : floor ≤ length new
  pub front : take floor new ≡ take floor old
  pub written : forward (drop floor new) (pieces_at slash left) ≡ forward (drop floor old) (pieces_at slash text)

-- the text begins with `.` or `..`, and this is left behind that
pub record IsBehindDots (text : Text) (is_parent : Bool) (left : Text) : Type 0 where
  pub shorter : length left < length text
  pub followed : (written : Text) → forward written (pieces_at slash text) ≡ forward (if is_parent then popped_text written else written) (pieces_at slash left)

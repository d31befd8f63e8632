-- Paths as lists of segments (RFC 3986 section 3.3).
use Rattle.std.specs.Prelude.{◌≡◌, Bool, true, false, not, ◌&&◌, List, [], ◌∷◌, ◌++◌, ◌==◌, if◌then◌else◌}
use Rattle.std.specs.{List.{join_with_byte, list_all}, Char.{char_set_contains}}
use Rattle.iref_grammar.specs.{Rules.{Text}, Grammar.{slash}, Texts.{pieces_at, is_empty}}

pub record PathValue : Type 0 where
  pub absolute : Bool
  pub segments : List Text

-- `/` if the path is absolute, then the segments with `/` between
unfoldable pub spell_path : PathValue → Text
spell_path p = (if p.absolute then slash ∷ [] else []) ++ join_with_byte slash p.segments

-- there is a first segment, and it is empty
abbrev pub begins_empty : List Text → Bool
begins_empty [] = false
begins_empty (s ∷ ss) = is_empty s

-- the list is one empty segment
abbrev pub is_one_empty : List Text → Bool
is_one_empty [] = false
is_one_empty (s ∷ ss) = is_empty s && is_empty ss

-- The spelling shows the flag and the list: a relative list is empty or begins with a segment that is not empty,
-- and an absolute list is not one empty segment.
abbrev pub shows_its_list : PathValue → Bool
shows_its_list p = if p.absolute then not (is_one_empty p.segments) else not (begins_empty p.segments)

-- the text is read as this path: no segment holds a `/`
pub record IsReadAs (text : Text) (p : PathValue) : Type 0 where
  pub segments : list_all (λ s. not (char_set_contains s slash)) p.segments ≡ true
  pub shown : shows_its_list p ≡ true
  pub spelled : spell_path p ≡ text

-- ---- the same, computed

-- the segments between `/`, of which the empty text has none
abbrev pub segments_of : Text → List Text
segments_of text = if is_empty text then [] else pieces_at slash text

-- a first `/` makes the path absolute
unfoldable pub read_path : Text → PathValue
read_path [] = record { absolute = false; segments = [] }
read_path (c ∷ cs) =
    if c == slash
    then record { absolute = true; segments = segments_of cs }
    else record { absolute = false; segments = segments_of (c ∷ cs) }

-- Canonical paths: those that one scan finds, and those that are spelled anew.
use Rattle.std.specs.{Prelude.{◌≡◌, Bool, true, false, not, ◌&&◌, ◌==◌, [], ◌∷◌, map}, List.{join_with_byte, list_all}}
use Rattle.iref_grammar.specs.{Grammar.{slash}, PathValue.{read_path}, Rules.{Text}}
use Rattle.iref_grammar.specs.PathKey.{path_key}
use Rattle.iref_parse.specs.{Dots.{has_dotted_segment}, Plain.{is_path_byte}}
use Rattle.iref_canonical.specs.{Canonical.{spelled_name}, declared.path.CanonicalPath.{CanonicalPath}}
use Rattle.iref_canonical.specs.declared.path.CanonicalPath.TheVariants.{Kept, Rooted, Spelled}
use Rattle.iref_canonical.specs.SpelledItems.{IsCounted, spelled_path_text}

-- the path begins with a `/`, and no other follows that
abbrev pub is_rooted : Text → Bool
is_rooted [] = false
is_rooted (c ∷ []) = c == slash
is_rooted (c ∷ d ∷ rest) = c == slash && not (d == slash)

-- and it has no escape, no character beyond ASCII and no segment that begins with a dot
abbrev pub is_kept_path : Text → Bool
is_kept_path path = is_rooted path && list_all is_path_byte path && not (has_dotted_segment path)

-- the text of an absolute path behind an authority, which needs no guard
abbrev pub rooted_text : Bool → Text → Text
rooted_text raw path = slash ∷ join_with_byte slash (map (spelled_name raw) (path_key (read_path path)).segments)

-- the text of the path
abbrev pub canonical_path_text : Bool → CanonicalPath → Text
canonical_path_text raw (Kept path) = path.now
canonical_path_text raw (Rooted path) = rooted_text raw path.now
canonical_path_text raw (Spelled p) = spelled_path_text raw p

-- what is put behind an authority is absolute, and what is counted is so
abbrev pub IsReady : CanonicalPath → Type 0
IsReady (Kept path) = Unit {0}
IsReady (Rooted path) = (read_path path.now).absolute ≡ true
IsReady (Spelled p) = IsCounted p

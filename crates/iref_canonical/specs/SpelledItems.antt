-- The items of a canonical path as they are written, and how many of them are `..` that stand.
use Rattle.std.specs.Prelude.{◌≡◌, ℕ, zero, suc, ◌-◌, ◌≤◌, Bool, false, not, ◌&&◌, ◌||◌, ◌==◌, List, [], ◌∷◌, ◌++◌, map, codes, length, if◌then◌else◌}
use Rattle.std.specs.List.{join_with_byte}
use Rattle.iref_grammar.specs.{Grammar.{full_stop, percent_sign, slash}, Rules.{Text}, Texts.{is_empty}}
use Rattle.iref_grammar.specs.NormalList.{is_dot_dot}
use Rattle.iref_path.specs.NormalItems.{decoded_left, IsSound, normal_left}
use Rattle.iref_canonical.specs.{Canonical.{spelled_name}, declared.path.SpelledPath.{SpelledPath}}

-- the first byte is `.`, or may be that of its escape
abbrev pub begins_as_dots : Text → Bool
begins_as_dots [] = false
begins_as_dots (c ∷ cs) = c == full_stop || c == percent_sign

-- how many `..` stand first in a relative list, the last item not among them
unfoldable pub standing_of : List Text → ℕ
standing_of [] = 0
standing_of (item ∷ rest) = if is_dot_dot item && not (is_empty rest) then suc (standing_of rest) else 0

-- how many stand in these items before others of which this number stand
abbrev pub standing_before : List Text → ℕ → ℕ
standing_before [] n = n
standing_before (item ∷ rest) n = if is_dot_dot item then suc (standing_before rest n) else 0

-- an item that stands, or a name
abbrev pub spelled_item : Bool → Bool → Text → Text
spelled_item raw stands item = if stands then codes ".." else spelled_name raw item

-- the items, of which this number of `..` stand first
unfoldable pub spelled_items : Bool → ℕ → List Text → List Text
spelled_items raw zero items = map (spelled_name raw) items
spelled_items raw (suc n) [] = []
spelled_items raw (suc n) (item ∷ rest) = codes ".." ∷ spelled_items raw n rest

-- the guard, and the items
unfoldable pub spelled_path_text : Bool → SpelledPath → Text
spelled_path_text raw p = p.guard.now ++ join_with_byte slash (spelled_items raw p.standing (decoded_left p.items))

-- the items can be read and are counted, and the last one does not stand
pub record IsCounted (p : SpelledPath) : Type 0 where
  pub sound : IsSound p.items
  pub count : p.count ≡ length (normal_left p.items)
  pub standing : p.standing ≤ p.count - 1

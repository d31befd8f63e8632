-- What is left of a normal list that is read from both ends of a path's text.
use Rattle.std.specs.Prelude.{◌≡◌, ℕ, ◌+◌, ◌<◌, ◌≤◌, ◌^◌, Bool, false, List, [], ◌∷◌, ◌++◌, Option, None, codes, length, map, replicate}
use Rattle.std.specs.{Prelude.{if◌then◌else◌}, Borrow.{Bor}, List.{list_any}}
use Rattle.percent_encoding.specs.Percent.{percent_decode}
use Rattle.iref_grammar.specs.{Rules.{Text}, PathValue.{PathValue, read_path}}
use Rattle.iref_path.specs.{MergedPaths.{merged_list}, StepsBetween.{last_ones}, Pieces.{pieces_if_some}}
use Rattle.iref_path.specs.declared.normal_items.NormalItems.{NormalItems}
use Rattle.iref_grammar.specs.{NormalList.{is_dot_dot}, NormalReading.{closing, open_before, staying_before}}

-- the path of a text, with a flag of its own
abbrev pub flagged_path : Bool → Text → PathValue
flagged_path absolute text = record (read_path text) { absolute = absolute }

-- this number of `..`, of names among the segments of both texts, and of closing segments, of which none has been given
abbrev pub unread_items : ℕ → ℕ → Option (Bor Text) → Option (Bor Text) → Bool → NormalItems
unread_items parents names front back closes =
    record { parents = parents; names_left = names; closes = closes; front = front; back = back; open_parents = 0 }

-- ---- the segments that are left of both texts

abbrev pub both_left : NormalItems → List Text
both_left n = merged_list n.front n.back

-- the names that stay of them
abbrev pub names_staying : NormalItems → List Text
names_staying n = staying_before (both_left n) n.open_parents

-- how many `..` are open before all of them
abbrev pub open_at_start : NormalItems → ℕ
open_at_start n = open_before (both_left n) n.open_parents

-- how many segments and open `..` are left to read
abbrev pub to_read : NormalItems → ℕ
to_read n = n.open_parents + length (both_left n)

-- the names that stay, and the closing segment
abbrev pub names_and_closing : NormalItems → List Text
names_and_closing n = names_staying n ++ closing n.closes

-- ---- those of the text behind

abbrev pub names_behind : NormalItems → List Text
names_behind n = staying_before (pieces_if_some n.back) n.open_parents

abbrev pub open_behind : NormalItems → ℕ
open_behind n = open_before (pieces_if_some n.back) n.open_parents

-- these are the last segments of the list
pub record IsEnd (end list : List Text) : Type 0 where
  pub within : length end ≤ length list
  pub last : end ≡ last_ones (length end) list

-- ---- the items

-- the names that are left of those that stay
abbrev pub names_left : NormalItems → List Text
names_left n = last_ones n.names_left (names_staying n)

unfoldable pub normal_left : NormalItems → List Text
normal_left n = replicate n.parents (codes "..") ++ (names_left n ++ closing n.closes)

-- the segments and open `..` can be counted
abbrev pub IsReadable : NormalItems → Type 0
IsReadable n = to_read n < 2 ^ 64

-- so many names stay, and the items can be counted
pub record IsSound (n : NormalItems) : Type 0 where
  pub readable : IsReadable n
  pub names : n.names_left ≤ length (names_staying n)
  pub items : n.parents + n.names_left + (if n.closes then 1 else 0) < 2 ^ 64

-- all names of one text are left, and none has been read
pub record IsWhole (n : NormalItems) : Type 0 where
  pub sound : IsSound n
  pub behind : n.front ≡ None
  pub closed : n.open_parents ≡ 0
  pub names : n.names_left ≡ length (names_behind n)

-- no segments stand in front, and no `..` behind: so each name stays
pub record IsSettled (n : NormalItems) : Type 0 where
  pub behind : n.front ≡ None
  pub closed : n.open_parents ≡ 0
  pub no_parents : list_any is_dot_dot (pieces_if_some n.back) ≡ false

-- all names are left, of one text in which each stays: so they can be read from the front
pub record IsPlain (n : NormalItems) : Type 0 where
  pub sound : IsSound n
  pub settled : IsSettled n
  pub names : n.names_left ≡ length (names_behind n)

-- the `..` that are left, the number of names and the closing segment stay
pub record KeepsEnds (before after : NormalItems) : Type 0 where
  pub parents : after.parents ≡ before.parents
  pub names : after.names_left ≡ before.names_left
  pub closes : after.closes ≡ before.closes

-- the first text of a list, or else this one
abbrev pub first_or : Text → List Text → Text
first_or s [] = s
first_or s (t ∷ ts) = t

-- the items that are left, decoded
abbrev pub decoded_left : NormalItems → List Text
decoded_left n = map percent_decode (normal_left n)

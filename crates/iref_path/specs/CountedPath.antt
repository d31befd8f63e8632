-- A path that is read from the back.
use Rattle.std.specs.{Prelude.{◌≡◌, ℕ, ◌+◌, ◌≤◌, Bool, List, [], ◌∷◌, Option, Some, None}, Borrow.{Bor}}
use Rattle.iref_grammar.specs.{Rules.{Text}, PathValue.{PathValue}}
use Rattle.iref_grammar.specs.CountedEquality.{ItemRead, Comparison, items_read, all_items_read}
use Rattle.iref_path.specs.CountedSegments.{HasRoom, segments_counted, segments_left, unread}
use Rattle.iref_path.specs.declared.counted.CountedPath.{CountedPath}
use Rattle.iref_path.specs.declared.counted_segments.CountedSegments.{CountedSegments}

-- the segments of the path
abbrev pub segments_of : CountedPath → CountedSegments
segments_of u = u.segments

-- the segments that are left, last first
abbrev pub segments_unread : CountedPath → List Text
segments_unread u = unread (segments_of u)

-- how many segments of both have been read
abbrev pub both_counted : CountedPath → CountedPath → ℕ
both_counted left right = segments_counted (segments_of left) + segments_counted (segments_of right)

-- the items that are left
unfoldable pub items_unread : CountedPath → List ItemRead
items_unread u = items_read u.absolute u.open_parents (segments_unread u)

-- the items of a path of which nothing has been read
unfoldable pub all_items_unread : CountedPath → List ItemRead
all_items_unread u = all_items_read u.absolute (segments_unread u)

-- the segments can be counted, and each open `..` has been
pub record IsCountable (u : CountedPath) : Type 0 where
  pub room : HasRoom (segments_of u)
  pub open_read : u.open_parents ≤ segments_counted (segments_of u)

-- nothing of the path has been read
pub record IsWhole (u : CountedPath) : Type 0 where
  pub countable : IsCountable u
  pub none_read : segments_counted (segments_of u) ≡ 0

-- the path of the flag and the segments that are left
abbrev pub path_unread : CountedPath → PathValue
path_unread u = record { absolute = u.absolute; segments = segments_left (segments_of u) }

abbrev pub item_given : Bor Text → CountedPath → ItemRead
item_given item after = record { item = item.now; unread = segments_unread after }

-- the last item that was left, or none
abbrev pub GivesItem : CountedPath → Option (Bor Text) → CountedPath → Type 0
GivesItem before None after = (items_unread before ≡ []) × (segments_unread after ≡ [])
GivesItem before (Some item) after = items_unread before ≡ item_given item after ∷ items_unread after

-- the comparison's answer, and what it leaves of both
abbrev pub IsAnswer : Comparison → Bool → CountedPath → CountedPath → Type 0
IsAnswer c equal left right = (equal ≡ c.equal) × (segments_unread left ≡ c.left) × (segments_unread right ≡ c.right)

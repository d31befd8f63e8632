-- Equality of paths, read from the back of both lists, and what the segments read so far decide.
use Rattle.std.specs.Prelude.{◌≡◌, ℕ, ◌+◌, ◌-◌, ◌≤◌, Bool, true, false, ◌&&◌, ◌==◌, List, [], ◌∷◌, ◌++◌, map, length, drop, reverse, if◌then◌else◌}
use Rattle.iref_grammar.specs.{Rules.{Text}, PathValue.{PathValue}}
use Rattle.iref_grammar.specs.{NormalList.{is_dot_dot, is_name, counted}, NormalReading.{leading_parents}}
use Rattle.iref_grammar.specs.{PathSuffix.{same_decoded}, PathKey.{path_key}}
use mathlib.Core.Bool.{beq}

-- other ends in the last `count` of these segments, and is this list where these are all of it
abbrev pub EndsAlike : List Text → ℕ → List Text → Type 0
EndsAlike segments count other =
    (front : List Text) × (other ≡ front ++ drop (length segments - count) segments) × (count ≡ length segments → front ≡ [])

-- No two paths with the flags of these, whose lists end in the last m and n of their segments, are equal.
abbrev pub AreDecidedApart : PathValue → ℕ → PathValue → ℕ → Type 0
AreDecidedApart p m q n =
    (x y : PathValue) → x.absolute ≡ p.absolute → EndsAlike p.segments m x.segments → y.absolute ≡ q.absolute → EndsAlike q.segments n y.segments
    → ¬ (path_key x ≡ path_key y)

-- Some last segments of both paths, this number in all, decide that the paths differ.
pub record AreFoundApart (p q : PathValue) (steps : ℕ) : Type 0 where
  pub left : ℕ
  pub right : ℕ
  pub left_within : left ≤ length p.segments
  pub right_within : right ≤ length q.segments
  pub counted : steps ≡ left + right
  pub decided : AreDecidedApart p left q right

-- The answer whether the paths are equal, after this number of segments was read: all of them, if they are.
abbrev pub IsCountedAnswer : PathValue → PathValue → Bool → ℕ → Type 0
IsCountedAnswer p q true steps = (path_key p ≡ path_key q) × (steps ≡ length p.segments + length q.segments)
IsCountedAnswer p q false steps = AreFoundApart p q steps

-- ---- reading from the back: all lists of segments from here on stand last segment first

-- an item of the normal list, and the segments that had not been read when it was known
pub record ItemRead : Type 0 where
  pub item : Text
  pub unread : List Text

abbrev pub last_read : Text → ItemRead
last_read s = record { item = s; unread = [] }

abbrev pub item_before : Bool → Text → List Text → List ItemRead → List ItemRead
item_before stays s unread later = if stays then record { item = s; unread = unread } ∷ later else later

-- the items of these segments, where this number of `..` is open behind them
abbrev pub items_read : Bool → ℕ → List Text → List ItemRead
items_read absolute behind [] = map last_read (leading_parents absolute behind)
items_read absolute behind (s ∷ before) =
    item_before (is_name s && (behind == 0)) s before (items_read absolute (counted (is_dot_dot s) (is_name s) behind) before)

-- The items of all segments: the last segment is the last item, or the empty item closes a list that ends in `.` or `..`.
-- One empty item stands for none.
abbrev pub all_items_read : Bool → List Text → List ItemRead
all_items_read absolute [] = last_read [] ∷ []
all_items_read absolute (s ∷ before) =
    record { item = if is_name s then s else []; unread = before } ∷ items_read absolute (counted (is_dot_dot s) (is_name s) 0) before

pub record Comparison : Type 0 where
  pub equal : Bool
  pub left : List Text
  pub right : List Text

-- the answer, and the segments of either path that have not been read
abbrev pub items_compared : List ItemRead → List ItemRead → Comparison
items_compared [] [] = record { equal = true; left = []; right = [] }
items_compared [] (t ∷ ts) = record { equal = false; left = []; right = t.unread }
items_compared (s ∷ ss) [] = record { equal = false; left = s.unread; right = [] }
items_compared (s ∷ ss) (t ∷ ts) =
    if same_decoded s.item t.item then items_compared ss ts else record { equal = false; left = s.unread; right = t.unread }

-- the answer for two paths
abbrev pub paths_compared : PathValue → PathValue → Comparison
paths_compared p q =
    if beq p.absolute q.absolute
    then items_compared (all_items_read p.absolute (reverse p.segments)) (all_items_read q.absolute (reverse q.segments))
    else record { equal = false; left = reverse p.segments; right = reverse q.segments }

-- how many segments have been read
abbrev pub segments_read : PathValue → PathValue → ℕ
segments_read p q =
    length p.segments - length (paths_compared p q).left + (length q.segments - length (paths_compared p q).right)

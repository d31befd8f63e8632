-- The segments of a text that are read from the back, and their count.
use Rattle.std.specs.{Prelude.{◌≡◌, ℕ, ◌+◌, ◌<◌, ◌≤◌, ◌^◌, List, Option, reverse, length}, Borrow.{Bor}}
use Rattle.std.specs.Iterator.{YieldsFirstBy}
use Rattle.iref_grammar.specs.Rules.{Text}
use Rattle.iref_path.specs.Pieces.{pieces_if_some, text_at}
use Rattle.iref_path.specs.declared.counted_segments.CountedSegments.{CountedSegments}

-- the segments that are left
abbrev pub segments_left : CountedSegments → List Text
segments_left s = pieces_if_some s.rest

-- the same, last first
unfoldable pub unread : CountedSegments → List Text
unread s = reverse (segments_left s)

-- how many have been read
abbrev pub segments_counted : CountedSegments → ℕ
segments_counted s = s.count

-- the count has room for the segments that are left
abbrev pub HasRoom : CountedSegments → Type 0
HasRoom s = segments_counted s + length (unread s) < 2 ^ 64

-- the last segment that was left, or none
abbrev pub GivesSegment : CountedSegments → Option (Bor Text) → CountedSegments → Type 0
GivesSegment before given after = YieldsFirstBy text_at unread before given after

-- each segment that was read has been counted
pub record IsCounted (before after : CountedSegments) : Type 0 where
  pub shorter : length (unread after) ≤ length (unread before)
  pub counted : segments_counted after + length (unread after) ≡ segments_counted before + length (unread before)

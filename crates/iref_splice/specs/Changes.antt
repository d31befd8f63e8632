-- The new texts of a change, the text after it, the part in a range, and the length of a part with its delimiter.
use Rattle.std.specs.{Prelude.{ℕ, ◌+◌, ◌-◌, ◌≤◌, ◌++◌, Option, Some, None, length, slice_range}, List.{splice}}
use Rattle.std.specs.{Str.{IsCharBoundary}, declared.ops.Range.{Range}}
use Rattle.iref_grammar.specs.Rules.{Text}
use Rattle.iref_splice.specs.{declared.change.Change.{Change}, declared.change.Span.{Span}}

-- the range lies in the text, and begins and ends between characters
pub record IsWithin (text : Text) (range : Range ℕ) : Type 0 where
  pub start_le_end : range.start ≤ range.end
  pub start : IsCharBoundary text range.start
  pub end : IsCharBoundary text range.end

-- what comes in, one text after the other
abbrev pub pieces : Change → Text
pieces change = change.first.now ++ change.middle.now ++ change.close.now

abbrev pub pieces_length : Change → ℕ
pieces_length change = length change.first.now + length change.middle.now + length change.close.now

-- how much is taken out
abbrev pub cut_length : Change → ℕ
cut_length change = change.within.end - change.within.start

-- no more comes in than is taken out
abbrev pub IsNoLonger : Change → Type 0
IsNoLonger change = pieces_length change ≤ cut_length change

-- the text with this instead of the range
abbrev pub replaced : Text → Range ℕ → Text → Text
replaced text range new = splice text range.start range.end new

-- the text after the change
abbrev pub changed : Text → Change → Text
changed text change = replaced text change.within (pieces change)

-- what stands in the range
abbrev pub part_at : Text → Span → Text
part_at text range = slice_range text range.start range.end

-- the same after a change
abbrev pub changed_part : Text → Span → Change → Text
changed_part text range change = changed (part_at text range) change

-- the text after a change of what stands in the range
abbrev pub changed_at : Text → Span → Change → Text
changed_at text range change = splice text range.start range.end (changed_part text range change)

-- how long a part is with its delimiter, where there is a part
abbrev pub with_mark : ℕ → Option Text → ℕ
with_mark mark None = 0
with_mark mark (Some part) = mark + length part

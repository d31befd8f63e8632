use Rattle.std.proofs.Common.{◌≡◌, ◌+◌, ◌<◌, ◌^◌, count_by, length}
use Rattle.iref.specs.{Texts.{is_empty}, Paths.{path_value, segments_left}}
use Rattle.iref_examples.proofs.empty_segment_count.Given as goal

-- those counted and those left are all
abbrev pub invariant-loop-segment : goal.invariant-loop-segment
invariant-loop-segment l =
    (l.count + count_by is_empty (segments_left l.segment-iterator) ≡ count_by is_empty (path_value l.fn.path).segments)
    × (l.count + length (segments_left l.segment-iterator) < 2 ^ 64)

use Rattle.std.proofs.Common.{◌≡◌, fold, length, max}
use Rattle.iref.specs.Paths.{path_value, segments_left}
use Rattle.iref_examples.proofs.longest_segment_length.Given as goal

-- the longest of those read and those left is that of all
abbrev pub invariant-loop-segment : goal.invariant-loop-segment
invariant-loop-segment l =
    fold (λ longest segment. max longest (length segment)) l.longest (segments_left l.segment-iterator)
    ≡ fold (λ longest segment. max longest (length segment)) 0 (path_value l.fn.path).segments

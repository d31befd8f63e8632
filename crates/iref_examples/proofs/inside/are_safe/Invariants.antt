use Rattle.std.proofs.Common.{◌≡◌, cond}
use Rattle.iref.specs.{NormalList.{normal_segments}, NormalPaths.{normal_segments_left}, Paths.{path_value}}
use Rattle.iref.specs.Texts.{is_empty}
use Rattle.iref_examples.specs.Inside.{are_safe}
use Rattle.iref_examples.proofs.inside.are_safe.Given as goal

-- behind an empty segment nothing is left, and else those that are left are safe, exactly if all are
abbrev pub invariant-loop-segment : goal.invariant-loop-segment
invariant-loop-segment l =
    cond l.closed (is_empty (normal_segments_left l.segment-iterator)) (are_safe (normal_segments_left l.segment-iterator))
    ≡ are_safe (normal_segments (path_value l.fn.path))

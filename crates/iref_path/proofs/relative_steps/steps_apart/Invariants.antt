use Rattle.std.proofs.Common.{◌≡◌, ◌≤◌, false, length}
use Rattle.iref_parse.specs.Dots.{has_dotted_segment}
use denote.Shadow.{shadow}
use denote.Text.{Utf8}
use Rattle.iref_path.specs.StepsBetween.{text_steps_with}
use Rattle.iref_path.proofs.relative_steps.steps_apart.Given as goal

abbrev pub invariant-loop-below : goal.invariant-loop-below
invariant-loop-below g l = record {
  steps : text_steps_with g.S.Sameness.same l.base l.path ≡ text_steps_with g.S.Sameness.same l.fn.base l.fn.path;
  dotless : has_dotted_segment l.fn.path ≡ false → has_dotted_segment l.path ≡ false;
  base_size : length l.base ≤ length l.fn.base;
  path_size : length l.path ≤ length l.fn.path;
  base_utf8 : shadow (Utf8 l.base);
  path_utf8 : shadow (Utf8 l.path);
}

abbrev pub decreases-loop-below : goal.decreases-loop-below
decreases-loop-below g l = length l.base

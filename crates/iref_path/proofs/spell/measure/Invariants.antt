use Rattle.std.proofs.Common.{◌≡◌, ◌+◌, [], length}
use denote.Shadow.{shadow}
use denote.Text.{Utf8}
use Rattle.iref_path.specs.{NormalItems.{first_or, IsSound, normal_left}, Spelling.{each_closed}}
use Rattle.iref_path.proofs.spell.measure.Given as goal

abbrev pub invariant-loop-item : goal.invariant-loop-item
invariant-loop-item l = record {
  size : length (each_closed (normal_left l.left)) + l.size ≡ length (each_closed (normal_left l.fn.left));
  first : first_or l.first (normal_left l.left) ≡ first_or [] (normal_left l.fn.left);
  utf8 : shadow (Utf8 l.first);
  sound : IsSound l.left;
}

abbrev pub decreases-loop-item : goal.decreases-loop-item
decreases-loop-item l = length (normal_left l.left)

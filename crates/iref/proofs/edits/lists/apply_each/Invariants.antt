use Rattle.std.proofs.Common.{◌≡◌, ◌≤◌, true, map, take}
use Rattle.iref_reference.specs.References.{reference_buf_value}
use Rattle.iref.specs.{EditAnswers.{AreDone, HasNormalPath, edited_in}, EditSteps.{edit_step}}
use Rattle.iref.proofs.edits.lists.apply_each.Given as goal

-- the edits so far are done
abbrev pub invariant-loop-i : goal.invariant-loop-i
invariant-loop-i g l = record {
  done : AreDone (edited_in g.R.HeldRule.allows_scheme) (take l.i (map edit_step l.edits)) (reference_buf_value l.initial.reference) (reference_buf_value l.reference);
  moves : l.moves ≤ l.i;
  normal : l.is_normal ≡ true → HasNormalPath (reference_buf_value l.reference);
}

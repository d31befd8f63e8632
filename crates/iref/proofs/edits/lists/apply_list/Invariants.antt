use Rattle.std.proofs.Common.{◌≤◌, ◌-◌, length, map, take}
use Rattle.iref_reference.specs.References.{reference_buf_value}
use Rattle.iref.specs.{EditAnswers.{AreDone, edited_in}, EditSteps.{edit_step}}
use Rattle.iref.proofs.edits.lists.apply_list.Given as goal

-- the edits so far are done
abbrev pub invariant-loop-done : goal.invariant-loop-done
invariant-loop-done g l = record {
  within : l.done ≤ length l.edits;
  done : AreDone (edited_in g.R.HeldRule.allows_scheme) (take l.done (map edit_step l.edits)) (reference_buf_value l.initial.reference) (reference_buf_value l.reference);
}

abbrev pub decreases-loop-done : goal.decreases-loop-done
decreases-loop-done g l = length l.edits - l.done

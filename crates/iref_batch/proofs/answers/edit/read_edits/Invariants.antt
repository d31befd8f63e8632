use Rattle.std.proofs.Common.{length, map}
use Rattle.std.specs.Option.{option_copied}
use Rattle.iref.specs.EditSteps.{edit_step}
use Rattle.iref_batch.specs.Fields.{fields_of}
use Rattle.iref_batch.proofs.EditFieldLemmas.{Reading}
use Rattle.iref_batch.proofs.answers.edit.read_edits.Given as goal

abbrev pub invariant-loop-field : goal.invariant-loop-field
invariant-loop-field l = Reading (fields_of (option_copied l.fn.fields)) (fields_of (option_copied l.left)) (map edit_step l.edits.items) l.are_valid

abbrev pub decreases-loop-field : goal.decreases-loop-field
decreases-loop-field l = length (fields_of (option_copied l.left))

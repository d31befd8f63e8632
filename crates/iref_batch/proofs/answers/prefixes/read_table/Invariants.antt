use Rattle.std.proofs.Common.{length}
use Rattle.std.specs.Option.{option_copied}
use Rattle.iref_batch.specs.Fields.{fields_of}
use Rattle.iref_batch.proofs.PrefixFieldLemmas.{Reading}
use Rattle.iref_batch.proofs.answers.prefixes.read_table.Given as goal

abbrev pub invariant-loop-field : goal.invariant-loop-field
invariant-loop-field l = Reading (fields_of (option_copied l.fn.fields)) (fields_of (option_copied l.left)) l.table l.are_valid

abbrev pub decreases-loop-field : goal.decreases-loop-field
decreases-loop-field l = length (fields_of (option_copied l.left))

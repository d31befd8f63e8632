use Rattle.std.proofs.Common.{◌≡◌, true, take}
use Rattle.iref.specs.EditSteps.{all_keep_query_and_fragment}
use Rattle.iref.proofs.edits.lists.kept_len.Given as goal

-- the edits so far leave the query and the fragment as they are
abbrev pub invariant-loop-i : goal.invariant-loop-i
invariant-loop-i g l = all_keep_query_and_fragment (take l.i l.edits) ≡ true

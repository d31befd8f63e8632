use Rattle.std.proofs.Common.{arith, true, false}
use Rattle.iref_path.specs.Pieces.{pieces_if_some}
use Rattle.iref_path.proofs.GuardTextLemmas.{no_guard, guard_spelled}
use Rattle.iref_path.proofs.guard.guard_of.Goals as goal

pub returns-in_default-clause-spelled : goal.returns-in_default-clause-spelled
returns-in_default-clause-spelled c = no_guard c.args.context c.args.path.now c.split_root-absolute.result.0 (grind arith)

pub returns-in-true-true-clause-spelled : goal.returns-in-true-true-clause-spelled
returns-in-true-true-clause-spelled c =
    let spelled = guard_spelled c.args.context c.args.path.now true c.first_segment.result.0.now (pieces_if_some c.first_segment.result.1) (grind arith) in
    grind (arith, spelled)

pub returns-in-true-false-clause-spelled : goal.returns-in-true-false-clause-spelled
returns-in-true-false-clause-spelled c =
    let spelled = guard_spelled c.args.context c.args.path.now true c.first_segment.result.0.now (pieces_if_some c.first_segment.result.1) (grind arith) in
    grind (arith, spelled)

pub returns-in-false-default-clause-spelled : goal.returns-in-false-default-clause-spelled
returns-in-false-default-clause-spelled c =
    let spelled = guard_spelled c.args.context c.args.path.now false c.first_segment.result.0.now (pieces_if_some c.first_segment.result.1) (grind arith) in
    grind (arith, spelled)

use Rattle.std.proofs.Common.{arith}
use Rattle.iref_component.proofs.faults.BorrowedText+R+C.fault_of_bytes.Goals as goal

pub returns-in-Err-clause-none : goal.returns-in-Err-clause-none
returns-in-Err-clause-none g c =
    let above = g.met.C.CharSet.above_ascii in
    grind (arith, g.met.R.HasFault.undecoded g.C.CharSet.tests above c.args.bytes.now c.in-Err.ensures.0, g.met.R.HasFault.complete g.C.CharSet.tests above c.args.bytes.now)

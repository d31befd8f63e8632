use Rattle.std.proofs.Common.{arith, true, false}
use Rattle.iref_path.proofs.GuardTextLemmas.{root_before}
use Rattle.iref_path.proofs.guard.root_of.Goals as goal

pub returns-then-split_root : goal.returns-then-split_root
returns-then-split_root c = root_before c.args.path.now true (grind arith)

pub returns-else-split_root : goal.returns-else-split_root
returns-else-split_root c = root_before c.args.path.now false (grind arith)

use Rattle.std.proofs.{Common.{arith}, lemmas.List.{drop_all}}
use Rattle.iref_splice.proofs.fed.Waiting.write.Goals as goal

pub returns-clause-none : goal.returns-clause-none
returns-clause-none g c = drop_all 256 c.self.inside.bytes (omega (arith, c.self.invariant.1))

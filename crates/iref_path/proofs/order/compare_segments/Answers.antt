use Rattle.std.proofs.Common.{arith}
use Rattle.iref_grammar.specs.Grammar.{slash}
use Rattle.iref_grammar.proofs.PieceLemmas.{some_piece}
use Rattle.iref_path.proofs.order.compare_segments.Goals as goal

pub returns-in-Some-None : goal.returns-in-Some-None
returns-in-Some-None c = let some = some_piece slash c.in-Some-None.field-0-0.now in grind arith

pub returns-in-None-Some : goal.returns-in-None-Some
returns-in-None-Some c = let some = some_piece slash c.in-None-Some.field-0-1.now in grind arith

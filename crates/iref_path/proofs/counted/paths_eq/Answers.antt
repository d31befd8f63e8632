use Rattle.std.proofs.{Common.{arith, false}, lemmas.Bool.{not-false}}
use Rattle.std.specs.Cmp.{booleans_Decides}
use Rattle.iref_path.proofs.CountedPathLemmas.{counted_by_items}
use Rattle.iref_path.proofs.counted.paths_eq.Goals as goal

pub returns-then-not-decoded_eq-clause-counted : goal.returns-then-not-decoded_eq-clause-counted
returns-then-not-decoded_eq-clause-counted c =
    let left = c.first_back-item in
    let right = c.first_back-other in
    counted_by_items c.args.left.now c.args.right.now c.requires.left c.requires.right ((booleans_Decides _ _).0 (not-false _ c.if-left-right.false))
    false left.new.self right.new.self (grind arith) left.ensures.counted right.ensures.counted

use Rattle.std.proofs.Common.{◌≡◌, ◌+◌, ◌*◌, List, codes, replicate}
use Rattle.iref_grammar.specs.Rules.{Text}
use Rattle.iref_path.specs.Stacks.{Completes}
use Rattle.iref_path.proofs.normal_items.stack.Stack.put_parents.Given as goal

abbrev pub invariant-loop-left : goal.invariant-loop-left
invariant-loop-left l = record {
  items : (whole : List Text) → Completes l.fn.self (replicate l.count (codes "..")) whole → Completes l.self (replicate l.left (codes "..")) whole;
  size : l.self.size + 3 * l.left ≡ l.fn.self.size + 3 * l.count;
}

abbrev pub decreases-loop-left : goal.decreases-loop-left
decreases-loop-left l = l.left

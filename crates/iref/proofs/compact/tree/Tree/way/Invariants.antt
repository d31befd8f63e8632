use Rattle.std.proofs.Common.{ℕ, List}
use Rattle.iref_grammar.specs.Rules.{Text}
use Rattle.iref.specs.PrefixTree.{place_of, IsNew, IsWay}
use Rattle.iref.proofs.PrefixWayLemmas.{bits_upto}
use Rattle.iref.proofs.compact.tree.Tree.way.Given as goal

abbrev pub invariant-loop-child : goal.invariant-loop-child
invariant-loop-child l = (texts : List Text) (n : ℕ) → IsNew texts l.self l.text n l.bit → IsWay texts l.self l.text n l.bit l.above l.child

abbrev pub decreases-loop-child : goal.decreases-loop-child
decreases-loop-child l = bits_upto (place_of l.bit) l.self.nodes.items l.child

use Rattle.std.proofs.Common.{◌*◌, ◌+◌}
use Rattle.iref.specs.PrefixTree.{all_of, keys_of, places_of}
use Rattle.iref.proofs.PrefixWayLemmas.{IsOnWay, bits_upto}
use Rattle.iref.proofs.compact.tree.Tree.near.Given as goal

abbrev pub invariant-loop-child : goal.invariant-loop-child
invariant-loop-child l = IsOnWay (keys_of l.key (all_of l.entries)) (places_of l.entries) l.self.nodes.items l.text l.len l.child l.ended

abbrev pub decreases-loop-child : goal.decreases-loop-child
decreases-loop-child l = bits_upto (9 * (l.len + 1)) l.self.nodes.items l.child

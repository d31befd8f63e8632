use Rattle.std.proofs.Common.{◌≡◌, ◌*◌, ◌≤◌, ◌+◌, ◌-◌, ◌/◌, ◌^◌}
use Rattle.iref.specs.PrefixTree.{symbol, SameBits}
use Rattle.iref.proofs.compact.tree.Bit.of_difference.Given as goal

abbrev pub invariant-loop-shift : goal.invariant-loop-shift
invariant-loop-shift l = record {
  within : l.shift ≤ 8;
  same : SameBits (9 * l.at + (8 - l.shift)) l.a l.b;
  high : symbol l.a l.at / 2 ^ (l.shift + 1) ≡ symbol l.b l.at / 2 ^ (l.shift + 1);
}

abbrev pub decreases-loop-shift : goal.decreases-loop-shift
decreases-loop-shift l = l.shift

use Rattle.std.proofs.Common.{◌≡◌, ◌≤◌, length}
use Rattle.iref_path.specs.{Pieces.{pieces_if_some}, NormalItems.{IsSettled, KeepsEnds, names_behind, to_read}}
use Rattle.iref_path.proofs.normal_items.NormalItems.next_name.Given as goal

abbrev pub invariant-loop-self : goal.invariant-loop-self
invariant-loop-self l = record {
  same : names_behind l.self ≡ names_behind l.fn.self;
  ends : KeepsEnds l.fn.self l.self;
  settled : IsSettled l.self;
  no_more : to_read l.self ≤ to_read l.fn.self;
}

abbrev pub decreases-loop-self : goal.decreases-loop-self
decreases-loop-self l = length (pieces_if_some l.self.back)

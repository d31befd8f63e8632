use Rattle.std.proofs.Common.{◌≡◌, ◌<◌, ◌++◌, length}
use Rattle.iref_path.specs.NormalItems.{normal_left}
use Rattle.iref_component.specs.NormalLeft.{IsLeft, IsPart, left_of}
use Rattle.iref_component.proofs.normal.left.Left.first_of.Given as goal

abbrev pub invariant-loop-first : goal.invariant-loop-first
invariant-loop-first l = record {
  items : normal_left l.first ++ left_of l.self ≡ normal_left l.part ++ left_of l.fn.self;
  room : 1 < length (normal_left l.first) → length l.self.parts.items < 6;
  part : IsPart l.first;
  sound : IsLeft l.self;
}

abbrev pub decreases-loop-first : goal.decreases-loop-first
decreases-loop-first l = length (normal_left l.first)

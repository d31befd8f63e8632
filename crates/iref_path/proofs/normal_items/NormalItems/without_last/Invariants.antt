use Rattle.std.proofs.Common.{◌≡◌, ◌-◌, length, take}
use Rattle.iref_path.specs.NormalItems.{IsSound, normal_left}
use Rattle.iref_path.proofs.normal_items.NormalItems.without_last.Given as goal

abbrev pub invariant-loop : goal.invariant-loop
invariant-loop l = record {
  items : normal_left l.left ≡ take (length (normal_left l.fn.self) - l.counter) (normal_left l.fn.self);
  sound : IsSound l.left;
}

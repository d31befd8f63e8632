use Rattle.std.proofs.Common.{◌≡◌, length}
use Rattle.iref_path.specs.NormalItems.{IsSound, normal_left}
use Rattle.iref_path.proofs.CompareListLemmas.{IsCompared}
use Rattle.iref_path.proofs.compare_lists.compare_same_length.Given as goal

abbrev pub invariant-loop-item : goal.invariant-loop-item
invariant-loop-item g l = record {
  compared : IsCompared g.S.Sameness.same g.S.Sameness.order (normal_left l.fn.left) (normal_left l.fn.right) (normal_left l.left) (normal_left l.right) l.common l.order;
  left_len : length (normal_left l.left) ≡ l.index;
  right_len : length (normal_left l.right) ≡ l.index;
  left : IsSound l.left;
  right : IsSound l.right;
}

abbrev pub decreases-loop-item : goal.decreases-loop-item
decreases-loop-item g l = l.index

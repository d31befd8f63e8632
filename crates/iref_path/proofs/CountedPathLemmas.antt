-- Two paths, read from the back.
use Rattle.std.proofs.Common.{◌≡◌, ℕ, ◌+◌, ◌-◌, ◌≤◌, Bool, true, false, length, refl, ap, arith}
use Rattle.std.proofs.{lemmas.List.{length-reverse}, lemmas.Bool.{not-false, not-true}}
use Rattle.iref_grammar.specs.PathValue.{PathValue}
use Rattle.iref_grammar.specs.CountedEquality.{Comparison, IsCountedAnswer, items_compared}
use Rattle.iref_grammar.proofs.CountedLemmas.{compared_same, flags_apart}
use Rattle.iref_path.specs.declared.counted.CountedPath.{CountedPath}
use Rattle.iref_path.specs.CountedPath.{IsAnswer, IsWhole, all_items_unread, both_counted, path_unread, segments_of}
use Rattle.iref_path.specs.CountedSegments.{IsCounted, unread}

pub ruleset sizes = (length-reverse)

-- what was read of both decides
pub counted_by_items : (u v : CountedPath) → IsWhole u → IsWhole v → u.absolute ≡ v.absolute → (equal : Bool) (left right : CountedPath) → IsAnswer (items_compared (all_items_unread u) (all_items_unread v)) equal left right
    → IsCounted (segments_of u) (segments_of left) → IsCounted (segments_of v) (segments_of right) → IsCountedAnswer (path_unread u) (path_unread v) equal (both_counted left right)
unfolding all_items_unread unread
counted_by_items u v whole_left whole_right flags equal left right answer read_left read_right =
    let p = path_unread u in
    let q = path_unread v in
    let c : Comparison = items_compared (all_items_unread u) (all_items_unread v) in
    let left_size : length (unread (segments_of left)) ≡ length c.left = ap length answer.1 in
    let right_size : length (unread (segments_of right)) ≡ length c.right = ap length answer.2 in
    let size : both_counted left right ≡ length p.segments - length c.left + (length q.segments - length c.right) =
    omega (arith, left_size, right_size, length-reverse p.segments, length-reverse q.segments) in
    rw (answer.0, size) (compared_same p q flags c refl)

-- no more segments are counted than there are
pub counted_within : (p q : PathValue) (equal : Bool) (steps : ℕ) → IsCountedAnswer p q equal steps → steps ≤ length p.segments + length q.segments
counted_within p q true steps answer = omega arith
counted_within p q false steps found = let left = found.left_within in let right = found.right_within in omega (arith, found.counted)

pub ruleset decided = (length-reverse, not-false, not-true, flags_apart, counted_by_items)

pub ruleset within = (counted_within)

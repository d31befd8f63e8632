use Rattle.std.proofs.Common.{◌≡◌, length}
use Rattle.std.specs.Cmp.Lexicographic.{slice_cmp}
use Rattle.iref_grammar.specs.Keys.{text_order}
use Rattle.iref_path.specs.{Named.{named}, Pieces.{pieces_if_some}}
use Rattle.iref_path.proofs.OrderLemmas.{decoded}
use Rattle.iref_path.proofs.order.compare_names.Given as goal

abbrev pub invariant-loop-left : goal.invariant-loop-left
invariant-loop-left l =
    slice_cmp text_order (decoded (named (pieces_if_some l.left))) (decoded (named (pieces_if_some l.right)))
    ≡ slice_cmp text_order (decoded (named (pieces_if_some l.fn.left))) (decoded (named (pieces_if_some l.fn.right)))

abbrev pub decreases-loop-left : goal.decreases-loop-left
decreases-loop-left l = length (pieces_if_some l.left)

use Rattle.std.proofs.Common.{◌≡◌, length}
use Rattle.std.specs.Cmp.Lexicographic.{slice_cmp}
use denote.Shadow.{shadow}
use denote.Text.{Utf8}
use Rattle.iref_grammar.specs.{Grammar.{slash}, Keys.{text_order}, Texts.{pieces_at}}
use Rattle.iref_path.proofs.OrderLemmas.{decoded}
use Rattle.iref_path.proofs.order.compare_segments.Given as goal

abbrev pub invariant-loop-order : goal.invariant-loop-order
invariant-loop-order l = record {
  order : slice_cmp text_order (decoded (pieces_at slash l.left)) (decoded (pieces_at slash l.right))
      ≡ slice_cmp text_order (decoded (pieces_at slash l.fn.left)) (decoded (pieces_at slash l.fn.right));
  left : shadow (Utf8 l.left);
  right : shadow (Utf8 l.right);
}

abbrev pub decreases-loop-order : goal.decreases-loop-order
decreases-loop-order l = length (pieces_at slash l.left)

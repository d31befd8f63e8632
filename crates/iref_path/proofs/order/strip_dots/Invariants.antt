use Rattle.std.proofs.Common.{◌≡◌, ◌≤◌, length}
use Rattle.std.specs.List.{list_any}
use denote.Shadow.{shadow}
use denote.Text.{Utf8}
use Rattle.iref_grammar.specs.{Grammar.{slash}, Texts.{pieces_at}}
use Rattle.iref_grammar.specs.NormalList.{is_dot_dot}
use Rattle.iref_path.specs.Named.{named}
use Rattle.iref_path.proofs.order.strip_dots.Given as goal

abbrev pub invariant-loop-rest : goal.invariant-loop-rest
invariant-loop-rest l = record {
  names : named (pieces_at slash l.left) ≡ named (pieces_at slash l.text);
  parents : list_any is_dot_dot (pieces_at slash l.left) ≡ list_any is_dot_dot (pieces_at slash l.text);
  fewer : length (pieces_at slash l.left) ≤ length (pieces_at slash l.text);
  utf8 : shadow (Utf8 l.left);
}

abbrev pub decreases-loop-rest : goal.decreases-loop-rest
decreases-loop-rest l = length (pieces_at slash l.left)

use Rattle.std.proofs.Common.{◌≡◌, ◌+◌, ◌++◌, List, length}
use Rattle.iref_grammar.specs.Rules.{Text}
use Rattle.iref_grammar.specs.NormalReading.{open_before, staying_before}
use Rattle.iref_path.specs.{Pieces.{pieces_if_some}, NormalItems.{IsReadable, names_staying, open_at_start}}
use Rattle.iref_path.specs.{Spelling.{each_closed}, Stacks.{Completes}}
use Rattle.iref_path.proofs.normal_items.stack.Stack.put_names.Given as goal

abbrev pub invariant-loop-name : goal.invariant-loop-name
invariant-loop-name l = record {
  parents : open_at_start l.left ≡ open_before (pieces_if_some l.segments) 0;
  items : (front whole : List Text) → Completes l.fn.self (front ++ staying_before (pieces_if_some l.segments) 0) whole → Completes l.self (front ++ names_staying l.left) whole;
  size : l.self.size + length (each_closed (names_staying l.left)) ≡ l.fn.self.size + length (each_closed (staying_before (pieces_if_some l.segments) 0));
  readable : IsReadable l.left;
}

abbrev pub decreases-loop-name : goal.decreases-loop-name
decreases-loop-name l = length (names_staying l.left)

use Rattle.std.proofs.Common.{map}
use Rattle.iref_component.specs.{Components.{text_of}, PathEdits.{SpellsPath}}
use Rattle.iref_grammar.specs.PathSteps.{from_segments}
use Rattle.iref_component.proofs.path_buf.PathBuf+C.from_segments.Given as goal

abbrev pub invariant-loop-segment : goal.invariant-loop-segment
invariant-loop-segment g l = record {
  can : (goal.iterator-loop-segment g).can_next l.segment-iterator;
  ends : (goal.iterator-loop-segment g).is_finite l.segment-iterator;
  path : SpellsPath l.path (from_segments l.absolute (map text_of l.yielded));
}

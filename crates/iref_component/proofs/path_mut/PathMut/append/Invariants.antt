use Rattle.std.proofs.Common.{◌≡◌, map, fold}
use Rattle.iref_component.specs.Components.{text_of}
use Rattle.iref_component.specs.PathEdits.{path_mut_context, path_mut_value, IsSameEditor, BecomesPath}
use Rattle.iref_grammar.specs.{NormalList.{ends_in_dots}, PathSteps.{followed}}
use Rattle.iref_component.proofs.path_mut.PathMut.append.Given as goal

abbrev pub invariant-loop-segment : goal.invariant-loop-segment
invariant-loop-segment g l = record {
  can : (goal.iterator-loop-segment g).can_next l.segment-iterator;
  ends : (goal.iterator-loop-segment g).is_finite l.segment-iterator;
  same : IsSameEditor l.initial.self l.self;
  path : BecomesPath l.initial.self l.self (fold (followed (path_mut_context l.initial.self)) (path_mut_value l.initial.self) (map text_of l.yielded));
  dots : l.ends_in_dots ≡ ends_in_dots (map text_of l.yielded);
}

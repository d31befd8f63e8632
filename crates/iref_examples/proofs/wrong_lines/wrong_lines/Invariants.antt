use Rattle.std.proofs.Common.{◌+◌, ◌≤◌, map}
use Rattle.iref_examples.specs.WrongLines.{line_and_fault}
use Rattle.iref_examples.proofs.WrongLineLemmas.{AreTold}
use Rattle.iref_examples.proofs.wrong_lines.wrong_lines.Given as goal

abbrev pub invariant-loop-line : goal.invariant-loop-line
invariant-loop-line l =
    AreTold l.text (map line_and_fault l.wrong.items) l.number l.line-iterator
    × (l.number + goal.iterator-loop-line.remaining l.line-iterator ≤ goal.iterator-loop-line.remaining l.initial.line-iterator)

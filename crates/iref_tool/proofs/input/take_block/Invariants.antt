use Rattle.std.proofs.Common.{◌≡◌, ◌++◌, length}
use Rattle.iref.specs.Rules.{Text}
use Rattle.iref_tool.specs.Streams.{ReadsMore}
use Rattle.iref_tool.proofs.input.take_block.Given as goal

abbrev pub invariant-loop-tail : goal.invariant-loop-tail
invariant-loop-tail g l = (front : Text) × (l.block ≡ front ++ l.rest) × ReadsMore g.T.TakesLines.given front l.initial.begun l.begun l.initial.to l.to

abbrev pub decreases-loop-tail : goal.decreases-loop-tail
decreases-loop-tail g l = length l.rest

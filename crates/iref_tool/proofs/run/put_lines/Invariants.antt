use Rattle.std.proofs.Common.{map, take}
use Rattle.std.specs.Io.KnownBytes.{Appends}
use Rattle.iref.specs.References.{reference_text}
use Rattle.iref_batch.specs.{Runs.{with_newlines}, StdStreams.{inner_of}}
use Rattle.iref_tool.proofs.run.put_lines.Given as goal

-- the lines before the index were written
abbrev pub invariant-loop-line : goal.invariant-loop-line
invariant-loop-line g l =
    Appends (g.W.Write.contents (inner_of l.initial.out)) (g.W.Write.contents (inner_of l.out))
    (with_newlines (map reference_text (take l.line-index l.lines)))

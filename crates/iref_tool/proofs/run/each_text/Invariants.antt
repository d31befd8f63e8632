use Rattle.std.proofs.Common.{take}
use Rattle.iref_tool.specs.JobRuns.{DoesAll}
use Rattle.iref_tool.proofs.run.each_text.Given as goal

-- the files before the index were read
abbrev pub invariant-loop-file : goal.invariant-loop-file
invariant-loop-file g l =
    DoesAll g.J.Job.outcome g.J.Job.goes_on g.W.Write.contents (take l.file-index l.files) l.status l.initial.texts l.texts

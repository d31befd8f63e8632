use Rattle.std.proofs.Common.{length, map}
use Rattle.iref_reference.specs.References.{reference_text}
use Rattle.iref_tool.proofs.JobLemmas.{AreRead}
use Rattle.iref_tool.proofs.jobs.Sort.sorted.Given as goal

-- those of the lines that were read
abbrev pub invariant-loop-line : goal.invariant-loop-line
invariant-loop-line l = AreRead l.self.text.items l.rest (map reference_text l.references.items)

abbrev pub decreases-loop-line : goal.decreases-loop-line
decreases-loop-line l = length l.rest

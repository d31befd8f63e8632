use Rattle.std.proofs.Common.{take}
use Rattle.iref_reference_text.proofs.HalfMappedLemmas.{IsHalfMapped}
use Rattle.iref_reference_text.proofs.mapped_bytes.map_to_the_end.Given as goal

-- what is left of the text stands at the front, what is mapped at the end
abbrev pub invariant-loop-left : goal.invariant-loop-left
invariant-loop-left l = IsHalfMapped (take l.from l.fn.buffer) l.buffer l.left l.end

abbrev pub decreases-loop-left : goal.decreases-loop-left
decreases-loop-left l = l.left

use Rattle.iref_reference.specs.References.{reference_value}
use Rattle.iref.proofs.FirstLemmas.{AreFirsts}
use Rattle.iref.proofs.lists.unique.Given as goal

-- those kept are the first of those read
abbrev pub invariant-loop-reference : goal.invariant-loop-reference
invariant-loop-reference g l = AreFirsts (λ r. reference_value r) l.kept.items l.seen l.references l.reference-index

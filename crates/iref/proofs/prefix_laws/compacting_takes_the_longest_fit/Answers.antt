use Rattle.iref.proofs.PrefixLemmas.{longest_fit-is, longest_fit-only, compacted-is, longest_fit-snoc}
use Rattle.iref.proofs.prefix_laws.compacting_takes_the_longest_fit.Goals as goal

pub returns : goal.returns
returns c = record { fit = longest_fit-is; only = longest_fit-only; compact = compacted-is; scan = longest_fit-snoc }

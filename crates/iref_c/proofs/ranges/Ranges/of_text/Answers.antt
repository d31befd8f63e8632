use Rattle.std.proofs.Common.{rules}
use Rattle.iref.proofs.ReferenceCutLemmas.{read_reference-spelled}
use Rattle.iref_c.proofs.ranges.Ranges.of_text.Goals as goal

pub of_slices-requires : goal.of_slices-requires
of_slices-requires c = search (rules, read_reference-spelled)

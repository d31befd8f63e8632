use Rattle.std.proofs.Common.{rules}
use Rattle.iref_reference_text.proofs.ReferenceTextLemmas.{texts_at-offsets, components_of, offsets_within}
use Rattle.iref_reference_text.proofs.reference_text.ReferenceText.slices.Goals as goal

pub slices_at-requires : goal.slices_at-requires
slices_at-requires g c = search (rules, offsets_within g.C.CharSet.tests g.met.C.CharSet.above_ascii)

pub returns-clause-components : goal.returns-clause-components
returns-clause-components g c = search (rules, texts_at-offsets, components_of g.C.CharSet.tests g.met.C.CharSet.above_ascii)

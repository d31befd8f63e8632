use Rattle.std.proofs.Common.{ap, refl, ◌∙◌, arith}
use Rattle.iref_parse.specs.ReferenceSlices.{value_of}
use Rattle.iref_reference_text.specs.ComponentLengths.{placed, total_length}
use Rattle.iref_reference_text.proofs.LengthLemmas.{lengths-slices, placed-spelled, total-spelled}
use Rattle.iref_reference_text.proofs.lengths.offsets_of.Goals as goal

pub offsets-requires : goal.offsets-requires
offsets-requires c = omega (arith, ap total_length (c.of.ensures ∙ lengths-slices c.args.slices _ refl), total-spelled (value_of c.args.slices))

pub returns : goal.returns
returns c = c.offsets.ensures ∙ ap placed (c.of.ensures ∙ lengths-slices c.args.slices _ refl) ∙ placed-spelled (value_of c.args.slices)

use Rattle.std.proofs.Common.{◌∙◌}
use Rattle.iref.specs.ReferenceSlices.{value_of}
use Rattle.iref_c.specs.PartRanges.{all_ranges}
use Rattle.iref_c.proofs.RangeLemmas.{authority-placed, range-ends, placed-parts}
use Rattle.iref_c.proofs.ranges.Ranges.of_slices.Goals as goal

pub ranges_at-parts-requires-clause-ends : goal.ranges_at-parts-requires-clause-ends
ranges_at-parts-requires-clause-ends c =
    range-ends _ _ _ (authority-placed (value_of c.args.slices) _ _ c.offsets_of-offsets.ensures c.range_of-authority.ensures)

pub returns : goal.returns
unfolding all_ranges
returns c =
    let placed = authority-placed (value_of c.args.slices) _ _ c.offsets_of-offsets.ensures c.range_of-authority.ensures in
    let parts = c.ranges_at-parts.ensures ∙ placed-parts _ _ _ placed in cc

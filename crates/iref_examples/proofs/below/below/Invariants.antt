use Rattle.std.proofs.Common.{◌≡◌, ◌++◌, map}
use Rattle.std.specs.BTreeMap.{values}
use Rattle.iref.specs.References.{reference_buf_value, reference_value}
use Rattle.iref_examples.specs.Below.{all_below}
use Rattle.iref_examples.proofs.below.below.Given as goal

-- those found, and those that are left of the range, are all
abbrev pub invariant-loop-below : goal.invariant-loop-below
invariant-loop-below l =
    map (λ it. reference_value it) l.found.items ++ map (λ e. reference_buf_value e.1) l.below-iterator
    ≡ all_below (reference_value l.fn.uri) (map (λ it. reference_buf_value it) (values l.index))

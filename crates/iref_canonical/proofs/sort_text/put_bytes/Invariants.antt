use Rattle.std.proofs.Common.{◌≡◌, length}
use Rattle.std.specs.List.{flat_map}
use Rattle.iref_canonical.specs.SortKey.{sort_byte, sort_text}
use Rattle.iref_canonical.proofs.sort_text.put_bytes.Given as goal

abbrev pub invariant-loop-front : goal.invariant-loop-front
invariant-loop-front g l = record {
  same : g.O.Backward.after l.out (flat_map sort_byte (g.B.KeyBytes.bytes l.rest)) ≡ g.O.Backward.after l.fn.out (sort_text (g.B.KeyBytes.bytes l.fn.text));
  fits : g.O.Backward.fits l.out (flat_map sort_byte (g.B.KeyBytes.bytes l.rest));
}

abbrev pub decreases-loop-front : goal.decreases-loop-front
decreases-loop-front g l = length l.rest

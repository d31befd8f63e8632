use Rattle.std.proofs.Common.{◌≡◌, length}
use Rattle.iref_canonical.specs.HashedParts.{hashed_bytes}
use Rattle.iref_canonical.proofs.hashed.put_bytes.Given as goal

abbrev pub invariant-loop-front : goal.invariant-loop-front
invariant-loop-front g l = record {
  same : g.O.Backward.after l.out (hashed_bytes (g.B.KeyBytes.bytes l.rest)) ≡ g.O.Backward.after l.fn.out (hashed_bytes (g.B.KeyBytes.bytes l.fn.text));
  fits : g.O.Backward.fits l.out (hashed_bytes (g.B.KeyBytes.bytes l.rest));
}

abbrev pub decreases-loop-front : goal.decreases-loop-front
decreases-loop-front g l = length l.rest

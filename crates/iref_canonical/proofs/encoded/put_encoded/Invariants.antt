use Rattle.std.proofs.Common.{◌≡◌, length}
use Rattle.percent_encoding.specs.Percent.{percent_decode}
use Rattle.iref_canonical.specs.Decoded.{recoded}
use Rattle.iref_canonical.proofs.encoded.put_encoded.Given as goal

abbrev pub invariant-loop-front : goal.invariant-loop-front
invariant-loop-front g l = record {
  same : g.O.Backward.after l.out (recoded l.raw l.set (percent_decode l.rest)) ≡ g.O.Backward.after l.fn.out (recoded l.raw l.set (percent_decode l.fn.text));
  fits : g.O.Backward.fits l.out (recoded l.raw l.set (percent_decode l.rest));
}

abbrev pub decreases-loop-front : goal.decreases-loop-front
decreases-loop-front g l = length l.rest

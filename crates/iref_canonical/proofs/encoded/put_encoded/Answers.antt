use Rattle.std.proofs.Common.{arith}
use Rattle.iref_canonical.proofs.EncodedLemmas.{encoded-last}
use Rattle.iref_canonical.proofs.encoded.put_encoded.Goals as goal

pub put_byte-requires : goal.put_byte-requires
put_byte-requires g c = grind (arith, g.met.O.Backward.fits_both, encoded-last c.args.raw c.args.set c.loop-front.rest.now c.in-Some.front.now c.in-Some.byte)

use Rattle.std.specs.Prelude.{bit_xor}
use Rattle.iref_parse.proofs.LaneLemmas.{HasLanes-zip2}
use Rattle.iref_parse.proofs.lanes.apart.Goals as goal

pub returns : goal.returns
returns c = HasLanes-zip2 bit_xor c.args.a c.args.b c.fits-a.0 c.fits-b.0

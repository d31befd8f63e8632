use Rattle.std.proofs.Common.{length}
use Rattle.iref_parse.proofs.ipv6.+ends_in_octets.Given as goal

abbrev pub decreases-ends_in_octets : goal.decreases-ends_in_octets
decreases-ends_in_octets l = length l.bytes.now

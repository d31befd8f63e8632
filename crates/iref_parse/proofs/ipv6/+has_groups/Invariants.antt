use Rattle.std.proofs.Common.{◌-◌, length}
use Rattle.iref_parse.proofs.ipv6.+has_groups.Given as goal

abbrev pub decreases-has_groups : goal.decreases-has_groups
decreases-has_groups l = length l.group.now - l.digits

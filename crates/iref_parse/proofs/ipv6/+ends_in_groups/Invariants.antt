use Rattle.std.proofs.Common.{◌-◌, length}
use Rattle.iref_parse.proofs.ipv6.+ends_in_groups.Given as goal

abbrev pub decreases-ends_in_groups : goal.decreases-ends_in_groups
decreases-ends_in_groups l = length l.group.now - l.digits

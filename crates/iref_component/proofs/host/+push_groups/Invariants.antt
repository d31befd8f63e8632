use Rattle.std.proofs.Common.{length}
use Rattle.iref_component.proofs.host.+push_groups.Given as goal

abbrev pub decreases-push_groups : goal.decreases-push_groups
decreases-push_groups l = length l.groups.now

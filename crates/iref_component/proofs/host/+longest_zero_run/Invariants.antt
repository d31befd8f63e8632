use Rattle.std.proofs.Common.{length}
use Rattle.iref_component.proofs.host.+longest_zero_run.Given as goal

abbrev pub decreases-longest_zero_run : goal.decreases-longest_zero_run
decreases-longest_zero_run l = length l.groups.now

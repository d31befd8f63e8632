use Rattle.std.proofs.Common.{arith, lit<}
use Rattle.iref_parse.proofs.GroupLemmas.{pushed_fits}
use Rattle.iref_parse.proofs.ip.Groups.push.Goals as goal

pub overflow_mul-result : goal.overflow_mul-result
overflow_mul-result c = omega (arith, pushed_fits c.args.self.count c.args.self.value 0 c.args.self.few c.if-self-eq8.false c.args.self.in_range (lit< tt))

pub overflow_add-result-2 : goal.overflow_add-result-2
overflow_add-result-2 c = omega (arith, pushed_fits c.args.self.count c.args.self.value c.args.group c.args.self.few c.if-self-eq8.false c.args.self.in_range c.ranges.group.fits, c.from.ensures)

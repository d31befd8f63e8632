use Rattle.std.proofs.Common.{arith, codes}
use Rattle.iref_path.proofs.RelativeStepLemmas.{up_length}
use Rattle.iref_path.proofs.relativized.of_text_steps.Goals as goal

pub up-requires : goal.up-requires
up-requires c = omega (arith, up_length c.args.up c.args.path.now, c.requires.room)

pub up-requires-in-Some : goal.up-requires-in-Some
up-requires-in-Some c = grind (arith, up_length c.in-Some.up (codes ".."), c.requires.room)

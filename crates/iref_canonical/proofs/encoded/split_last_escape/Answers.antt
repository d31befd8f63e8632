use Rattle.std.proofs.{Common.{arith}, lemmas.Bool.Decides.{nat_tests}}
use Rattle.iref_canonical.proofs.DecodedLemmas.{ends-at}
use Rattle.iref_canonical.proofs.encoded.split_last_escape.Goals as goal

pub returns-then-text-at-ne37 : goal.returns-then-text-at-ne37
returns-then-text-at-ne37 c = grind (arith, nat_tests, ends-at c.args.text.now c.in_ok-at.at)

pub returns-in_err-high : goal.returns-in_err-high
returns-in_err-high c = grind (arith, nat_tests, ends-at c.args.text.now c.in_ok-at.at)

pub returns-in_err-low : goal.returns-in_err-low
returns-in_err-low c = grind (arith, nat_tests, ends-at c.args.text.now c.in_ok-at.at)

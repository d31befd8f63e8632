use Rattle.std.proofs.{Common.{arith}, lemmas.Bool.Decides.{nat_tests}}
use Rattle.iref_grammar.specs.Grammar.{colon}
use Rattle.iref_canonical.proofs.ColonLemmas.{decoded-contains, nothing-contains}
use Rattle.iref_canonical.proofs.path.decodes_to_colon.Goals as goal

pub returns-then-byte-eq58 : goal.returns-then-byte-eq58
returns-then-byte-eq58 c = grind (arith, nat_tests, decoded-contains c.loop-front.rest.now c.in-Some.front.now c.in-Some.byte colon)

pub loop-front-preserved : goal.loop-front-preserved
loop-front-preserved c = grind (arith, nat_tests, decoded-contains c.loop-front.rest.now c.in-Some.front.now c.in-Some.byte colon)

pub returns : goal.returns
returns c = grind (arith, nothing-contains c.loop-front.rest.now colon)

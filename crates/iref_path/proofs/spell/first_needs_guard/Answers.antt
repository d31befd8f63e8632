use Rattle.std.proofs.{lemmas.Grind.{common_steps}, Common.{arith}}
use Rattle.iref_grammar.specs.Grammar.{colon}
use Rattle.iref_path.proofs.SpellLemmas.{any-contained}
use Rattle.iref_path.proofs.spell.first_needs_guard.Goals as goal

pub returns-then-not-after_mark : goal.returns-then-not-after_mark
returns-then-not-after_mark c = grind (arith, common_steps, any-contained c.args.segment.now colon)

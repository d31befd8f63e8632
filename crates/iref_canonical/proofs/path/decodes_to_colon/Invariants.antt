use Rattle.std.proofs.Common.{◌≡◌, length}
use Rattle.std.specs.Char.{char_set_contains}
use Rattle.percent_encoding.specs.Percent.{percent_decode}
use Rattle.iref_grammar.specs.Grammar.{colon}
use Rattle.iref_canonical.proofs.path.decodes_to_colon.Given as goal

abbrev pub invariant-loop-front : goal.invariant-loop-front
invariant-loop-front l = char_set_contains (percent_decode l.rest) colon ≡ char_set_contains (percent_decode l.fn.text) colon

abbrev pub decreases-loop-front : goal.decreases-loop-front
decreases-loop-front l = length l.rest

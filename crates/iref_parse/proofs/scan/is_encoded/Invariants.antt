use Rattle.std.proofs.Common.{◌≡◌, chars, length, IsUtf8}
use Rattle.iref_grammar.specs.Tests.{is_encoded}
use Rattle.iref_parse.specs.CharRules.{allowed_by}
use Rattle.iref_parse.proofs.scan.is_encoded.Given as goal

-- what is left of the text decides
abbrev pub invariant-loop-rest : goal.invariant-loop-rest
invariant-loop-rest g l = IsUtf8 l.rest × (is_encoded (allowed_by g.C.CharSet.tests g.row.RULE) (chars l.rest) ≡ is_encoded (allowed_by g.C.CharSet.tests g.row.RULE) (chars l.text))

abbrev pub decreases-loop-rest : goal.decreases-loop-rest
decreases-loop-rest g l = length l.rest

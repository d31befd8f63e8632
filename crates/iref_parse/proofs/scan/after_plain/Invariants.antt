use Rattle.std.proofs.Common.{◌≡◌, ◌≤◌, chars, length, IsUtf8}
use Rattle.iref_grammar.specs.Tests.{is_encoded}
use Rattle.iref_parse.specs.CharRules.{allowed_by}
use Rattle.iref_parse.proofs.scan.after_plain.Given as goal

-- what is left of the text decides
abbrev pub invariant-loop-after : goal.invariant-loop-after
invariant-loop-after g l = IsUtf8 l.rest × (is_encoded (allowed_by g.C.CharSet.tests g.row.RULE) (chars l.rest) ≡ is_encoded (allowed_by g.C.CharSet.tests g.row.RULE) (chars l.text)) × (length l.rest ≤ length l.text)

abbrev pub decreases-loop-after : goal.decreases-loop-after
decreases-loop-after g l = length l.rest

abbrev pub invariant-loop-after-2 : goal.invariant-loop-after-2
invariant-loop-after-2 g l = IsUtf8 l.rest × (is_encoded (allowed_by g.C.CharSet.tests g.row.RULE) (chars l.rest) ≡ is_encoded (allowed_by g.C.CharSet.tests g.row.RULE) (chars l.text)) × (length l.rest ≤ length l.text)

abbrev pub decreases-loop-after-2 : goal.decreases-loop-after-2
decreases-loop-after-2 g l = length l.rest

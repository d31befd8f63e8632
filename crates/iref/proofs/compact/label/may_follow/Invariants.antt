use Rattle.std.proofs.Common.{◌≡◌, chars, length, IsUtf8}
use Rattle.iref.specs.PrefixLabels.{follow_pn_chars_base}
use Rattle.iref.proofs.compact.label.may_follow.Given as goal

-- what is left of the text decides
abbrev pub invariant-loop-c : goal.invariant-loop-c
invariant-loop-c l = IsUtf8 l.rest × (follow_pn_chars_base (chars l.rest) ≡ follow_pn_chars_base (chars l.text))

abbrev pub decreases-loop-c : goal.decreases-loop-c
decreases-loop-c l = length l.rest

use Rattle.std.proofs.Common.{◌≡◌, ℕ, List, length, Option, option_and_then}
use denote.Text.{Utf8}
use denote.Shadow.{shadow}
use Rattle.iref_grammar.specs.{Rules.{Text}, Grammar.{colon}, Texts.{pieces_at}, IpAddresses.{groups_then}}
use Rattle.iref_parse.specs.IpGroups.{counted, counted_after}
use Rattle.iref_parse.proofs.ip.groups_before_last.Given as goal

-- the groups that were read and the rest count as the text does
abbrev pub invariant-loop-piece : goal.invariant-loop-piece
invariant-loop-piece l = record {
  text : shadow (Utf8 l.rest);
  same : (last : Text → Option (List ℕ)) → counted (groups_then last (pieces_at colon l.text)) ≡ option_and_then (counted_after l.groups.count l.groups.value) (groups_then last (pieces_at colon l.rest));
}

abbrev pub decreases-loop-piece : goal.decreases-loop-piece
decreases-loop-piece l = length l.rest

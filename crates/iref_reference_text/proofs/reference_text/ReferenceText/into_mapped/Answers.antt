use Rattle.std.proofs.Common.{◌≡◌, true, arith}
use Rattle.iref_grammar.specs.{Characters.{uri_chars, uri_above_ascii}, Rules.{Text}}
use Rattle.iref_grammar.specs.Mapping.{mapped}
use Rattle.iref_grammar.proofs.MappedLemmas.{mapped-ascii, none_escaped}
use Rattle.iref_reference_text.proofs.{ReferenceTextLemmas.{in_rule_utf8}, MappingLemmas.{mapping-in_rule}}
use Rattle.iref_reference_text.proofs.reference_text.ReferenceText.into_mapped.Given.{Over}
use Rattle.iref_reference_text.proofs.reference_text.ReferenceText.into_mapped.Goals as goal

in_rule : (g : Over) (text : Text) → g.R.Rule.test g.C.CharSet.tests text ≡ true → g.R.Rule.test uri_chars (mapped text) ≡ true
in_rule g =
    mapping-in_rule g.R.Rule.test g.R.HeldRule.allows_scheme g.met.R.HeldRule.references g.met.R.HeldRule.has_allowed_scheme g.met.R.HeldRule.by_scheme
    g.C.CharSet.tests g.met.C.CharSet.above_ascii

pub into_rule-requires : goal.into_rule-requires
into_rule-requires g c = grind (arith, mapped-ascii c.args.self, none_escaped c.args.self, in_rule g c.args.self)

pub returns-then-escaped-eq0-clause-ok : goal.returns-then-escaped-eq0-clause-ok
returns-then-escaped-eq0-clause-ok g c = grind (arith, mapped-ascii c.args.self, none_escaped c.args.self)

pub from_utf8_unchecked-mapped-requires : goal.from_utf8_unchecked-mapped-requires
from_utf8_unchecked-mapped-requires g c =
    in_rule_utf8 _ _ ((g.R.Rule.decided uri_chars uri_above_ascii c.map_in_place.new.bytes.items).0 (grind (arith, in_rule g)))

pub new_unchecked-requires : goal.new_unchecked-requires
new_unchecked-requires g c = grind (arith, in_rule g)

pub returns-in-Err-clause-ascii : goal.returns-in-Err-clause-ascii
returns-in-Err-clause-ascii g c = grind (arith, none_escaped c.args.self)

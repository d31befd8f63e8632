use Rattle.std.proofs.Common.{ap, ◌∙◌}
use Rattle.iref_grammar.specs.Characters.{uri_chars}
use Rattle.iref_reference_text.proofs.MappingLemmas.{mapping-in_rule}
use Rattle.iref_reference_text.proofs.reference_text.copies.ReferenceText+R+UriChars.mapped.Goals as goal

pub new_unchecked-requires : goal.new_unchecked-requires
new_unchecked-requires g c =
    ap (g.R.Rule.test uri_chars) c.in_ok-mapped.ensures
    ∙ mapping-in_rule g.R.Rule.test g.R.HeldRule.allows_scheme g.met.R.HeldRule.references g.met.R.HeldRule.has_allowed_scheme g.met.R.HeldRule.by_scheme
    g.C.CharSet.tests g.met.C.CharSet.above_ascii c.args.text.now c.requires

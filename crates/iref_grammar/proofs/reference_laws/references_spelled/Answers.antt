use Rattle.iref_grammar.proofs.ReferenceRuleLemmas.{in_utf8-reference, in_utf8-full}
use Rattle.iref_grammar.proofs.reference_laws.references_spelled.Goals as goal

pub returns : goal.returns
returns g c =
    let set = g.S.CharSet.tests in
    let above = g.met.S.CharSet.above_ascii in
    record { reference = in_utf8-reference set above; uri = in_utf8-full set above }

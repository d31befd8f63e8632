use Rattle.iref_grammar.proofs.AuthorityRuleLemmas.{Decides-is_authority, Decides-has_authority_parts}
use Rattle.iref_grammar.proofs.authority_laws.authority_grammar.Goals as goal

pub returns : goal.returns
returns g c =
    let set = g.S.CharSet.tests in
    let above = g.met.S.CharSet.above_ascii in
    record { text = Decides-is_authority set above; parts = Decides-has_authority_parts set above }

use Rattle.iref_grammar.proofs.AuthorityLemmas.{read_authority-spelled}
use Rattle.iref_grammar.proofs.AuthorityRuleLemmas.{authority_read, in_utf8-authority, one_authority}
use Rattle.iref_grammar.proofs.authority_laws.authority_reading.Goals as goal

pub returns : goal.returns
returns g c =
    let set = g.S.CharSet.tests in
    let above = g.met.S.CharSet.above_ascii in
    record {
      reading = record { spelled_back = read_authority-spelled; read_back = authority_read set above; one = one_authority set above };
      spelled = in_utf8-authority set above;
    }

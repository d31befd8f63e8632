use Rattle.iref_grammar.proofs.PathTestLemmas.{Decides-after_authority, Decides-after_scheme, Decides-alone}
use Rattle.iref_grammar.proofs.path_laws.path_context_grammar.Goals as goal

pub returns : goal.returns
returns g c =
    let set = g.S.CharSet.tests in
    let above = g.met.S.CharSet.above_ascii in
    record {
      after_authority = Decides-after_authority set above;
      after_scheme = Decides-after_scheme set above;
      alone = Decides-alone set above;
    }

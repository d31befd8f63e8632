use Rattle.iref_grammar.proofs.ReferenceRuleLemmas.{Decides-is_uri, Decides-is_uri_reference, Decides-is_readable}
use Rattle.iref_grammar.proofs.reference_laws.reference_grammar.Goals as goal

pub returns : goal.returns
returns g c =
    let set = g.S.CharSet.tests in
    let above = g.met.S.CharSet.above_ascii in
    record {
      uri = Decides-is_uri set above;
      reference = Decides-is_uri_reference set above;
      readable = Decides-is_readable set above;
    }

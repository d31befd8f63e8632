use Rattle.iref_grammar.proofs.ReferenceCutLemmas.{read_reference-spelled}
use Rattle.iref_grammar.proofs.ReferenceRuleLemmas.{one_spelling, reading, reference_read}
use Rattle.iref_grammar.proofs.reference_laws.reference_reading.Goals as goal

pub returns : goal.returns
returns g c =
    let set = g.S.CharSet.tests in
    let above = g.met.S.CharSet.above_ascii in
    record {
      reading = record { spelled_back = read_reference-spelled; read_back = reference_read set above; one = one_spelling set above };
      computed = reading set above;
    }

use Rattle.iref_grammar.proofs.WiderLemmas.{uri_readable, uri_reference}
use Rattle.iref_grammar.proofs.reference_laws.uris_in_each_grammar.Goals as goal

pub returns : goal.returns
returns g c =
    let set = g.S.CharSet.tests in
    record { readable = uri_readable set; text = uri_reference set g.met.S.CharSet.above_ascii }

use Rattle.iref_grammar.proofs.PathTestLemmas.{readable_path_back, readable_path_text}
use Rattle.iref_grammar.proofs.path_laws.readable_paths_are_read_back.Goals as goal

pub returns : goal.returns
returns g c =
    let set = g.S.CharSet.tests in
    let above = g.met.S.CharSet.above_ascii in
    record { value = readable_path_back set above; text = readable_path_text set above }

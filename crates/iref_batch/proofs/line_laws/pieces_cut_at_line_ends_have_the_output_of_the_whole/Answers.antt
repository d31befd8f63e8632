use Rattle.iref_batch.proofs.OutputLemmas.{output_cut}
use Rattle.iref_batch.proofs.line_laws.pieces_cut_at_line_ends_have_the_output_of_the_whole.Goals as goal

pub returns : goal.returns
returns g c = output_cut g.S.CharSet.tests

use Rattle.iref_batch.proofs.LineLawLemmas.{to_uri_rule, to_uri_equal}
use Rattle.iref_batch.proofs.line_laws.to_uri_answers_an_equal_uri_reference.Goals as goal

pub returns : goal.returns
returns c = record { rule = to_uri_rule; equal = to_uri_equal }

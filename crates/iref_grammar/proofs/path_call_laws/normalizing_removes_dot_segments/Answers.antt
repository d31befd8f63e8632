use Rattle.iref_grammar.proofs.RewritingLemmas.{path_removes_dot_segments, dot_segments_removed-is, removes-one}
use Rattle.iref_grammar.proofs.path_call_laws.normalizing_removes_dot_segments.Goals as goal

pub returns : goal.returns
returns c = record { path = path_removes_dot_segments; computed = dot_segments_removed-is; one = removes-one }

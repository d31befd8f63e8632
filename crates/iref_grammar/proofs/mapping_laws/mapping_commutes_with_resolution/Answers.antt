use Rattle.iref_grammar.proofs.MappedResolutionLemmas.{resolved-mapped, normal-mapped}
use Rattle.iref_grammar.proofs.MappedRelativeLemmas.{relative-mapped}
use Rattle.iref_grammar.proofs.mapping_laws.mapping_commutes_with_resolution.Goals as goal

pub returns : goal.returns
returns g c = record { resolved = resolved-mapped; normal = normal-mapped; relative = relative-mapped g.S.CharSet.tests g.met.S.CharSet.above_ascii }

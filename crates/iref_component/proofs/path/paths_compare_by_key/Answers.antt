use Rattle.std.proofs.Common.{refl}
use Rattle.iref_grammar.specs.PathKey.{path_key}
use Rattle.iref_grammar.proofs.TieLemmas.{paths_tie}
use Rattle.iref_canonical.proofs.HashedLemmas.{path-delimits}
use Rattle.iref_canonical.proofs.KnownKeyLemmas.{path_known}
use Rattle.iref_component.specs.{Components.{text_of}, Paths.{path_value}}
use Rattle.iref_component.proofs.path.paths_compare_by_key.Goals as goal

pub returns-clause-by_key : goal.returns-clause-by_key
returns-clause-by_key g c = ((λ a b. paths_tie (path_key (path_value a)) (path_key (path_value b))), (λ a b. refl), (λ v. refl), path-delimits)

pub returns-clause-known : goal.returns-clause-known
returns-clause-known g c = λ v. path_known g.C.CharSet.tests g.met.C.CharSet.above_ascii (text_of v) v.in_rule

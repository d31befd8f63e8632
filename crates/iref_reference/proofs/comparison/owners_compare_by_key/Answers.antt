use Rattle.std.proofs.Common.{refl}
use Rattle.iref_grammar.proofs.TieLemmas.{references_tie}
use Rattle.iref_canonical.proofs.{HashedLemmas.{reference-delimits}, KnownKeyLemmas.{reference_known}}
use Rattle.iref_reference.specs.References.{key_of_reference_buf}
use Rattle.iref_reference.proofs.comparison.owners_compare_by_key.Goals as goal

pub returns-clause-by_key : goal.returns-clause-by_key
returns-clause-by_key g c = ((λ a b. references_tie (key_of_reference_buf a) (key_of_reference_buf b)), (λ a b. refl), (λ v. refl), reference-delimits)

pub returns-clause-known : goal.returns-clause-known
returns-clause-known g c = reference_known g.C.CharSet.tests g.met.C.CharSet.above_ascii

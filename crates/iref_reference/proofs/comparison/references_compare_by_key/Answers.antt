use Rattle.std.proofs.Common.{refl}
use Rattle.iref_grammar.proofs.TieLemmas.{references_tie}
use Rattle.iref_grammar.proofs.ComponentLemmas.{reference_if_uri}
use Rattle.iref_canonical.proofs.{HashedLemmas.{reference-delimits}, KnownKeyLemmas.{reference_known}}
use Rattle.iref_reference.specs.References.{key_of_reference, reference_text}
use Rattle.iref_reference.proofs.comparison.references_compare_by_key.Goals as goal

pub returns-clause-references : goal.returns-clause-references
returns-clause-references g c = ((λ a b. references_tie (key_of_reference a) (key_of_reference b)), (λ a b. refl), (λ v. refl), reference-delimits)

pub returns-clause-uris : goal.returns-clause-uris
returns-clause-uris g c = ((λ a b. references_tie (key_of_reference a) (key_of_reference b)), (λ a b. refl), (λ v. refl), reference-delimits)

pub returns-clause-known_references : goal.returns-clause-known_references
returns-clause-known_references g c = λ v. reference_known g.C.CharSet.tests g.met.C.CharSet.above_ascii (reference_text v) v.text.in_rule

pub returns-clause-known_uris : goal.returns-clause-known_uris
returns-clause-known_uris g c =
    λ v. reference_known g.C.CharSet.tests g.met.C.CharSet.above_ascii (reference_text v) (reference_if_uri g.C.CharSet.tests (reference_text v) v.text.in_rule)

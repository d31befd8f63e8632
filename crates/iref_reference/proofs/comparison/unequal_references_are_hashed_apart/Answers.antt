use Rattle.iref_grammar.proofs.ComponentLemmas.{reference_if_uri}
use Rattle.iref_canonical.proofs.{HashedLemmas.{reference-delimits}, KnownKeyLemmas.{reference_known}}
use Rattle.iref_reference.specs.References.{key_of_reference, reference_text}
use Rattle.iref_reference.proofs.comparison.unequal_references_are_hashed_apart.Goals as goal

pub returns-clause-references : goal.returns-clause-references
returns-clause-references g c =
    λ v w.
    reference-delimits (key_of_reference v) (key_of_reference w)
    (reference_known g.C.CharSet.tests g.met.C.CharSet.above_ascii (reference_text v) v.text.in_rule)
    (reference_known g.D.CharSet.tests g.met.D.CharSet.above_ascii (reference_text w) w.text.in_rule)

pub returns-clause-uris : goal.returns-clause-uris
returns-clause-uris g c =
    λ v w.
    reference-delimits (key_of_reference v) (key_of_reference w)
    (reference_known g.C.CharSet.tests g.met.C.CharSet.above_ascii (reference_text v) (reference_if_uri g.C.CharSet.tests (reference_text v) v.text.in_rule))
    (reference_known g.D.CharSet.tests g.met.D.CharSet.above_ascii (reference_text w) (reference_if_uri g.D.CharSet.tests (reference_text w) w.text.in_rule))

pub returns-clause-one_of_each : goal.returns-clause-one_of_each
returns-clause-one_of_each g c =
    λ v w.
    reference-delimits (key_of_reference v) (key_of_reference w)
    (reference_known g.C.CharSet.tests g.met.C.CharSet.above_ascii (reference_text v) v.text.in_rule)
    (reference_known g.D.CharSet.tests g.met.D.CharSet.above_ascii (reference_text w) (reference_if_uri g.D.CharSet.tests (reference_text w) w.text.in_rule))

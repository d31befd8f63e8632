-- What references are compared by: their components, each as it is compared by itself.
use Rattle.iref_component.specs.Comparisons.{Comparison}
use Rattle.iref_grammar.specs.Reference.{ReferenceValue, read_reference}
use Rattle.iref_grammar.specs.Key.{key, key_cmp}
use Rattle.iref_grammar.proofs.KeyOrderLemmas.{keys_separate, keys_total}
use Rattle.iref_canonical.specs.Hashed.{fed_reference, IsReadableKey}
use Rattle.iref_canonical.proofs.HashedLemmas.{reference-delimits}

abbrev pub by_components : Comparison
by_components = record { Kept = ReferenceValue; key = λ text. key (read_reference text); order = key_cmp; fed = fed_reference; Known = IsReadableKey; total = keys_total; separates = keys_separate; delimits = reference-delimits }

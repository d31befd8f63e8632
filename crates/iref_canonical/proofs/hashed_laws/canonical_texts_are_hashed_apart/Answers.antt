use Rattle.iref_canonical.proofs.HashedLemmas.{path-delimits, reference-delimits}
use Rattle.iref_canonical.proofs.hashed_laws.canonical_texts_are_hashed_apart.Goals as goal

pub returns : goal.returns
returns c = record { reference = reference-delimits; path = path-delimits }

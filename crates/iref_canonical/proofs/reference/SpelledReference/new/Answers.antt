use Rattle.std.proofs.Common.{arith}
use Rattle.iref_grammar.proofs.ComponentLemmas.{is_some-copied}
use Rattle.iref_parse.specs.ReferenceSlices.{texts_of}
use Rattle.iref_canonical.specs.{SpelledReferences.{measured_spelling}, KeptPaths.{canonical_path_text}}
use Rattle.iref_canonical.proofs.CanonicalSpellingLemmas.{components-spelled}
use Rattle.iref_canonical.proofs.reference.SpelledReference.new.Goals as goal

pub returns-clause-text : goal.returns-clause-text
unfolding measured_spelling
returns-clause-text c = components-spelled c.args.raw (texts_of c.args.slices) (canonical_path_text c.args.raw c.new.result) (grind (arith, is_some-copied))

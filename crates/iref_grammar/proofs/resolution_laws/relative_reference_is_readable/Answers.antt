use Rattle.iref_grammar.proofs.ReadableRelativeLemmas.{relative_to-readable, relative_to-IsReadable}
use Rattle.iref_grammar.proofs.ReadableLemmas.{readable_read}
use Rattle.iref_grammar.specs.Relative.{relative_to}
use Rattle.iref_grammar.proofs.resolution_laws.relative_reference_is_readable.Goals as goal

pub returns-clause-rule : goal.returns-clause-rule
returns-clause-rule c = λ set target base above readable. relative_to-IsReadable set above target base readable

pub returns-clause-read_back : goal.returns-clause-read_back
returns-clause-read_back c = λ set target base above readable. readable_read set above (relative_to target base) (relative_to-readable set target base readable)

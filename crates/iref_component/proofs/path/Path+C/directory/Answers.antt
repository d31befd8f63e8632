use Rattle.std.proofs.Common.{arith}
use Rattle.iref_grammar.proofs.DirectoryLemmas.{directory-read}
use Rattle.iref_component.proofs.path.Path+C.directory.Goals as goal

pub returns-clause-value : goal.returns-clause-value
returns-clause-value g c = grind (arith, directory-read)

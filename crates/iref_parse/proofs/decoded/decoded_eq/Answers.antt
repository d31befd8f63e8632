use Rattle.std.proofs.Common.{rules}
use Rattle.std.specs.Cmp.Lexicographic.{texts_ties}
use Rattle.iref_parse.proofs.decoded.decoded_eq.Goals as goal

pub returns-else-eq : goal.returns-else-eq
returns-else-eq c = search (rules, texts_ties)

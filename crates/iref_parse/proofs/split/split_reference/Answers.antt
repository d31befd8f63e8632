use Rattle.std.proofs.Common.{rules}
use Rattle.iref_grammar.specs.Reference.{read_reference}
use Rattle.iref_grammar.proofs.ComponentLemmas.{spelled_as_read}
use Rattle.iref_parse.proofs.split.split_reference.Goals as goal

pub returns-clause-texts : goal.returns-clause-texts
unfolding read_reference
returns-clause-texts c = spelled_as_read _ (read_reference c.args.text.now) (search rules)

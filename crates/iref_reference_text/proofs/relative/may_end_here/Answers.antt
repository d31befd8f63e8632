use Rattle.std.proofs.Common.{arith}
use Rattle.iref_grammar.specs.PathValue.{read_path}
use Rattle.iref_grammar.proofs.ComponentLemmas.{is_some-copied}
use Rattle.iref_reference_text.proofs.RelativeLemmas.{empty_as_root}
use Rattle.iref_reference_text.proofs.relative.may_end_here.Goals as goal

pub returns-else-ends_anyway : goal.returns-else-ends_anyway
returns-else-ends_anyway c = grind (arith, is_some-copied, empty_as_root (read_path c.args.target.path.now) c.path_texts_eq.result c.path_texts_eq.ensures)

use Rattle.std.proofs.Common.{arith}
use Rattle.iref_grammar.proofs.ComponentLemmas.{is_some-copied}
use Rattle.iref_parse.specs.ReferenceSlices.{texts_of}
use Rattle.iref_reference_text.proofs.RelativeLemmas.{none-copied, same_path}
use Rattle.iref_reference_text.proofs.relative.is_same_place.Goals as goal

pub returns-then-not-keeps_query : goal.returns-then-not-keeps_query
returns-then-not-keeps_query c = grind (arith, is_some-copied, none-copied)

pub returns-then-path_texts_eq : goal.returns-then-path_texts_eq
returns-then-path_texts_eq c = grind (arith, is_some-copied, none-copied, same_path (texts_of c.args.target) (texts_of c.args.base) c.path_texts_eq.result c.path_texts_eq.ensures)

pub returns-else-path_texts_eq : goal.returns-else-path_texts_eq
returns-else-path_texts_eq c = grind (arith, same_path (texts_of c.args.target) (texts_of c.args.base) c.path_texts_eq.result c.path_texts_eq.ensures)

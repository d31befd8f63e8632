use Rattle.std.proofs.Common.{arith}
use Rattle.iref_parse.specs.ReferenceSlices.{texts_of}
use Rattle.iref_reference_text.proofs.ShortestTextLemmas.{shared_by_texts}
use Rattle.iref_reference_text.proofs.relativized.Shared.of.Goals as goal

pub returns-then-not-same_part : goal.returns-then-not-same_part
returns-then-not-same_part c = grind (arith, shared_by_texts (texts_of c.args.target) (texts_of c.args.base))

pub returns-then-not-same_part-2 : goal.returns-then-not-same_part-2
returns-then-not-same_part-2 c = grind (arith, shared_by_texts (texts_of c.args.target) (texts_of c.args.base))

pub returns-then-ne : goal.returns-then-ne
returns-then-ne c = grind (arith, shared_by_texts (texts_of c.args.target) (texts_of c.args.base))

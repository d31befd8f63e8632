use Rattle.std.proofs.Common.{arith}
use Rattle.iref_grammar.proofs.ComponentLemmas.{Decides-AreComponents}
use Rattle.iref_reference_text.proofs.BaseLemmas.{base_of-read, base_of_in_rule}
use Rattle.iref_parse.specs.ReferenceSlices.{texts_of}
use Rattle.iref_reference_text.proofs.base.base_text.Goals as goal

pub base_slice-requires-clause-components : goal.base_slice-requires-clause-components
base_slice-requires-clause-components g c = (Decides-AreComponents g.C.CharSet.tests g.met.C.CharSet.above_ascii c.args.text.now (texts_of c.split_reference-slices.result) c.split_reference-slices.ensures.value).0 c.requires

pub returns-clause-value : goal.returns-clause-value
returns-clause-value g c = grind (arith, base_of-read g.C.CharSet.tests g.met.C.CharSet.above_ascii)

pub returns-clause-in_rule : goal.returns-clause-in_rule
returns-clause-in_rule g c = grind (arith, base_of_in_rule g.C.CharSet.tests g.met.C.CharSet.above_ascii)

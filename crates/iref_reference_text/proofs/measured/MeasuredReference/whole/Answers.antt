use Rattle.std.proofs.Common.{arith}
use Rattle.iref_parse.specs.ReferenceSlices.{texts_of}
use Rattle.iref_grammar.proofs.ComponentLemmas.{spell_components-read}
use Rattle.iref_reference_text.proofs.measured.MeasuredReference.whole.Goals as goal

pub returns-clause-texts : goal.returns-clause-texts
returns-clause-texts c = grind (arith, spell_components-read (texts_of c.args.reference))

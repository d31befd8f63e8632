use Rattle.std.proofs.Common.{rules}
use Rattle.iref_reference_text.proofs.BaseLemmas.{base_of-read}
use Rattle.iref_reference_text.proofs.reference_text.ReferenceText.base_text.Goals as goal

pub returns-clause-value : goal.returns-clause-value
returns-clause-value g c = search (rules, base_of-read g.C.CharSet.tests g.met.C.CharSet.above_ascii, g.met.R.HeldRule.references g.C.CharSet.tests)

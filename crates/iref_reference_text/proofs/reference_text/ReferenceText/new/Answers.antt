use Rattle.std.proofs.Common.{rules, arith}
use Rattle.std.specs.String.{string_bytes}
use Rattle.iref_reference_text.proofs.LengthLemmas.{lengths-slices}
use Rattle.iref_reference_text.proofs.reference_text.ReferenceText.new.Goals as goal

pub with_lengths-requires-clause-lengths : goal.with_lengths-requires-clause-lengths
with_lengths-requires-clause-lengths g c = grind (arith, lengths-slices c.in-Some.slices _ c.in-Some.ensures.value)

pub returns : goal.returns
returns g c = search (rules, (g.R.Rule.decided g.C.CharSet.tests g.met.C.CharSet.above_ascii (string_bytes c.args.text)).0)

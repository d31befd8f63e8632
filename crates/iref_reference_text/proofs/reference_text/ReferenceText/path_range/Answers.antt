use Rattle.std.proofs.Common.{refl}
use Rattle.iref_grammar.specs.ComponentOffsets.{offsets_in, offsets_of}
use Rattle.iref_reference_text.proofs.LengthLemmas.{path_after-lengths, query_after-lengths}
use Rattle.iref_reference_text.proofs.EditLemmas.{path_replaced, path_within}
use Rattle.iref_reference_text.proofs.reference_text.ReferenceText.path_range.Goals as goal

pub returns-clause-within : goal.returns-clause-within
returns-clause-within g c =
    let set = g.C.CharSet.tests in
    let text = c.args.self.now in
    rw (c.path_start.ensures, c.query_mark.ensures, c.lengths-lengths.ensures.lengths) (path_within set g.met.C.CharSet.above_ascii text (g.met.R.HeldRule.references set text c.lengths-lengths.ensures.in_rule))

pub returns-clause-range : goal.returns-clause-range
unfolding offsets_of offsets_in
returns-clause-range g c = rw (c.path_start.ensures, c.query_mark.ensures, c.lengths-lengths.ensures.lengths, query_after-lengths, path_after-lengths) refl

pub returns-clause-replaced : goal.returns-clause-replaced
unfolding offsets_of offsets_in
returns-clause-replaced g c = rw (c.path_start.ensures, c.query_mark.ensures, c.lengths-lengths.ensures.lengths, query_after-lengths, path_after-lengths) (path_replaced c.args.self.now)

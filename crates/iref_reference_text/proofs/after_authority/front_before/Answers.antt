use Rattle.std.proofs.{Common.{arith, ap, ◌∙◌}, lemmas.Grind.{common_steps}}
use Rattle.iref_grammar.proofs.ComponentLemmas.{Decides-AreComponents, is_some-copied}
use Rattle.iref_grammar.proofs.ReferenceCutLemmas.{read_reference-spelled}
use Rattle.iref_parse.specs.ReferenceSlices.{texts_of}
use Rattle.iref_reference_text.proofs.{FrontLemmas.{before_absolute, before_relative}, RowLemmas.{path_alone}}
use Rattle.iref_reference_text.proofs.{EditLemmas.{path_starts}, LengthLemmas.{lengths-slices}}
use Rattle.iref_reference_text.specs.ComponentLengths.{path_after}
use Rattle.iref_reference_text.proofs.after_authority.front_before.Goals as goal

pub range-requires-clause-end_boundary : goal.range-requires-clause-end_boundary
range-requires-clause-end_boundary g c =
    let set = g.C.CharSet.tests in
    let text = c.args.text.now in
    let start = c.path_start.ensures ∙ ap path_after (c.requires.lengths ∙ lengths-slices c.args.base _ c.requires.value) in
    let reference = (Decides-AreComponents set g.met.C.CharSet.above_ascii text (texts_of c.args.base) c.requires.value).1 c.requires.components in
    rw start (path_starts set g.met.C.CharSet.above_ascii text reference)

pub returns-in-Rooted : goal.returns-in-Rooted
returns-in-Rooted g c =
    grind (arith, common_steps, is_some-copied, read_reference-spelled c.args.text.now, before_absolute (texts_of c.args.base), path_alone (texts_of c.args.reference) c.args.row c.requires.row c.requires.path)

pub returns : goal.returns
returns g c = grind (arith, common_steps, is_some-copied, before_relative (texts_of c.args.base), path_alone (texts_of c.args.reference) c.args.row c.requires.row c.requires.path)

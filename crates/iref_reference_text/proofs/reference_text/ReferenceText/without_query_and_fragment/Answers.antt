use Rattle.std.proofs.Common.{rules, ◌≡◌}
use Rattle.iref_grammar.specs.Reference.{hierarchy}
use Rattle.iref_grammar.proofs.FrontLemmas.{read_reference-hierarchy, is_reference-hierarchy}
use Rattle.iref_reference_text.proofs.{EditLemmas.{path_ends}, ReferenceTextLemmas.{hierarchy-range}}
use Rattle.iref_reference_text.proofs.reference_text.ReferenceText.without_query_and_fragment.Goals as goal

pub range-requires-clause-end_boundary : goal.range-requires-clause-end_boundary
range-requires-clause-end_boundary g c = search (rules, path_ends g.C.CharSet.tests g.met.C.CharSet.above_ascii, g.met.R.HeldRule.references g.C.CharSet.tests)

pub returns-clause-text : goal.returns-clause-text
returns-clause-text g c = search (rules, hierarchy-range)

pub returns-clause-value : goal.returns-clause-value
returns-clause-value g c =
    let cut : c.range.result.now ≡ hierarchy c.args.self.now = search (rules, hierarchy-range) in
    rw cut (read_reference-hierarchy c.args.self.now)

pub returns-clause-in_rule : goal.returns-clause-in_rule
returns-clause-in_rule g c =
    let cut : c.range.result.now ≡ hierarchy c.args.self.now = search (rules, hierarchy-range) in
    rw cut (search (rules, is_reference-hierarchy, g.met.R.HeldRule.references g.C.CharSet.tests))

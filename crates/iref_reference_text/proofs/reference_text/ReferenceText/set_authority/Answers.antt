use Rattle.std.proofs.Common.{arith, length-append, sym, ◌∙◌, option_map}
use Rattle.std.specs.Option.{option_copied}
use Rattle.iref_grammar.specs.{Authority.{read_authority}, Reference.{read_reference}}
use Rattle.iref_grammar.proofs.ComponentLemmas.{authority_spelled, is_some-copied}
use Rattle.iref_grammar.proofs.MappedMarkLemmas.{is_some-map}
use Rattle.iref_grammar.specs.ComponentSteps.{with_authority}
use Rattle.iref_reference_text.proofs.EditLemmas.{authority_set}
use Rattle.iref_reference_text.proofs.reference_text.ReferenceText.set_authority.Goals as goal

pub invariant_of-self-2 : goal.invariant_of-self-2
unfolding with_authority
invariant_of-self-2 g c =
    let set = g.C.CharSet.tests in
    let old = read_reference c.args.self.now in
    let text = option_copied c.args.authority in
    let new = option_map read_authority text in
    let guard = c.authority_guard-guard.result.now in
    let put = c.authority_guard-guard.ensures.spelled new (is_some-map read_authority text ∙ sym (is_some-copied c.args.authority) ∙ sym c.is_some.ensures) in
    let spelled = rw (c.self.view_is, c.marked.ensures.pieces, authority_spelled text) at c.in_ok-replace.ensures.ok
    ∙ c.authority_range-within.ensures.replaced new (with_authority new old).path guard put in
    let step = authority_set set g.met.C.CharSet.above_ascii (g.R.Rule.test set) g.R.HeldRule.allows_scheme (g.met.R.HeldRule.by_scheme set) old
    c.lengths-old.ensures.readable c.lengths-old.ensures.allowed _ text c.requires spelled in
    grind (arith, length-append, put, authority_spelled text, step)

pub returns-clause-set : goal.returns-clause-set
unfolding with_authority
returns-clause-set g c =
    let set = g.C.CharSet.tests in
    let old = read_reference c.args.self.now in
    let text = option_copied c.args.authority in
    let new = option_map read_authority text in
    let guard = c.authority_guard-guard.result.now in
    let put = c.authority_guard-guard.ensures.spelled new (is_some-map read_authority text ∙ sym (is_some-copied c.args.authority) ∙ sym c.is_some.ensures) in
    let spelled = rw (c.self.view_is, c.marked.ensures.pieces, authority_spelled text) at c.in_ok-replace.ensures.ok
    ∙ c.authority_range-within.ensures.replaced new (with_authority new old).path guard put in
    let step = authority_set set g.met.C.CharSet.above_ascii (g.R.Rule.test set) g.R.HeldRule.allows_scheme (g.met.R.HeldRule.by_scheme set) old
    c.lengths-old.ensures.readable c.lengths-old.ensures.allowed _ text c.requires spelled in
    (spelled, step.value)

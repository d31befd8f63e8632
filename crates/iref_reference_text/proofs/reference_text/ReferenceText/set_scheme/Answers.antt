use Rattle.std.proofs.Common.{arith, ◌≡◌, ◌+◌, length, length-append, sym, ap, ◌∙◌}
use Rattle.std.specs.Option.{option_copied}
use Rattle.iref_grammar.specs.{PathValue.{spell_path}, Reference.{read_reference}}
use Rattle.iref_grammar.proofs.ComponentLemmas.{is_some-copied}
use Rattle.iref_grammar.specs.ComponentSteps.{with_scheme}
use Rattle.iref_reference_text.proofs.EditLemmas.{scheme_set, spells, with_scheme-parts}
use Rattle.iref_reference_text.proofs.reference_text.ReferenceText.set_scheme.Goals as goal

pub invariant_of-self-2 : goal.invariant_of-self-2
invariant_of-self-2 g c =
    let set = g.C.CharSet.tests in
    let old = read_reference c.args.self.now in
    let new = option_copied c.args.scheme in
    let guard = c.scheme_guard-guard.result.now in
    let put = c.scheme_guard-guard.ensures.spelled new (sym (is_some-copied c.args.scheme) ∙ sym c.is_some.ensures) in
    let spelled = rw (c.self.view_is, c.marked_after.ensures.pieces) at c.in_ok-replace.ensures.ok ∙ c.scheme_range-within.ensures.replaced new (with_scheme new old).path guard put in
    let step = scheme_set set g.met.C.CharSet.above_ascii (g.R.Rule.test set) g.R.HeldRule.allows_scheme (g.met.R.HeldRule.by_scheme set) old
    c.lengths-old.ensures.readable c.lengths-old.ensures.allowed _ new c.requires.scheme c.requires.allowed spelled in
    let len : length guard + c.lengths-old.result.path ≡ length (spell_path (with_scheme new old).path) = rw c.lengths-old.ensures.lengths (omega (arith, simp length-append at (ap length put))) in
    let lengths = rw c.self.view_is at c.self.invariant.1 in
    (step.leaves.in_rule, (λ i. record (lengths i) { scheme = c.marked_len-self-inside.ensures i; path = len i }) ∙ step.leaves.lengths)

pub returns-clause-set : goal.returns-clause-set
returns-clause-set g c =
    let set = g.C.CharSet.tests in
    let old = read_reference c.args.self.now in
    let new = option_copied c.args.scheme in
    let guard = c.scheme_guard-guard.result.now in
    let put = c.scheme_guard-guard.ensures.spelled new (sym (is_some-copied c.args.scheme) ∙ sym c.is_some.ensures) in
    let spelled = rw (c.self.view_is, c.marked_after.ensures.pieces) at c.in_ok-replace.ensures.ok ∙ c.scheme_range-within.ensures.replaced new (with_scheme new old).path guard put in
    let step = scheme_set set g.met.C.CharSet.above_ascii (g.R.Rule.test set) g.R.HeldRule.allows_scheme (g.met.R.HeldRule.by_scheme set) old
    c.lengths-old.ensures.readable c.lengths-old.ensures.allowed _ new c.requires.scheme c.requires.allowed spelled in
    rw (with_scheme-parts new old) at (spells (g.R.Rule.test set) _ _ step)

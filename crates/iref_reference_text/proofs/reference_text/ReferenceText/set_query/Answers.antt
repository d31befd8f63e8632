use Rattle.std.proofs.Common.{arith, ◌∙◌}
use Rattle.std.specs.Option.{option_copied}
use Rattle.iref_grammar.specs.Reference.{read_reference}
use Rattle.iref_reference_text.proofs.EditLemmas.{query_set, readable_of}
use Rattle.iref_reference_text.proofs.reference_text.ReferenceText.set_query.Goals as goal

pub invariant_of-self-2 : goal.invariant_of-self-2
invariant_of-self-2 g c =
    let set = g.C.CharSet.tests in
    let test = g.R.Rule.test set in
    let text = c.args.self.now in
    let known = rw c.self.view_is at c.self.invariant.0 in
    let query = option_copied c.args.query in
    let put = rw c.self.view_is at c.in_ok-put_marked.ensures.ok ∙ c.query_range-within.ensures.replaced query in
    let step = query_set set g.met.C.CharSet.above_ascii test g.R.HeldRule.allows_scheme (g.met.R.HeldRule.by_scheme set) (read_reference text)
    (readable_of set text (g.met.R.HeldRule.references set text known)) (g.met.R.HeldRule.has_allowed_scheme set text known) _ query c.requires put in
    grind (arith, step)

pub returns-clause-set : goal.returns-clause-set
returns-clause-set g c =
    let set = g.C.CharSet.tests in
    let test = g.R.Rule.test set in
    let text = c.args.self.now in
    let known = rw c.self.view_is at c.self.invariant.0 in
    let query = option_copied c.args.query in
    let put = rw c.self.view_is at c.in_ok-put_marked.ensures.ok ∙ c.query_range-within.ensures.replaced query in
    let step = query_set set g.met.C.CharSet.above_ascii test g.R.HeldRule.allows_scheme (g.met.R.HeldRule.by_scheme set) (read_reference text)
    (readable_of set text (g.met.R.HeldRule.references set text known)) (g.met.R.HeldRule.has_allowed_scheme set text known) _ query c.requires put in
    (put, step.value)

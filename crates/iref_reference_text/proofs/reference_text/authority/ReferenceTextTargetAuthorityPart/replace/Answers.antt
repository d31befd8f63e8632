use Rattle.std.proofs.Common.{arith, refl}
use Rattle.iref_splice.specs.Changes.{changed_part}
use Rattle.iref_splice.proofs.PartLemmas.{part_stands}
use Rattle.iref_reference_text.proofs.AuthorityRangeLemmas.{authority_put, authority_range_within}
use Rattle.iref_reference_text.proofs.reference_text.authority.ReferenceTextTargetAuthorityPart.replace.Goals as goal

pub replace_part-requires-clause-part : goal.replace_part-requires-clause-part
replace_part-requires-clause-part g c = rw c.self.view_is (authority_range_within g.C.CharSet.tests g.met.C.CharSet.above_ascii c.args.self.now c.args.at c.requires.stands)

pub replace_part-requires-clause-within : goal.replace_part-requires-clause-within
replace_part-requires-clause-within g c = rw c.self.view_is c.requires.within

pub overflow_add-self : goal.overflow_add-self
overflow_add-self g c =
    let placed = authority_range_within g.C.CharSet.tests g.met.C.CharSet.above_ascii c.args.self.now c.args.at c.requires.stands in
    let put = rw c.self.view_is at c.in_ok-end.ensures.text in
    let ends = rw c.self.view_is at c.in_ok-end.ensures.end in
    omega (arith, ends, (part_stands _ _ _ c.args.at.start c.args.at.end _ placed.start_le_end placed.end.0 put ends).in_bounds)

pub invariant_of-self-2 : goal.invariant_of-self-2
invariant_of-self-2 g c =
    let set = g.C.CharSet.tests in
    let text = c.args.self.now in
    let known = rw c.self.view_is at c.self.invariant.0 in
    let put = rw c.self.view_is at c.in_ok-end.ensures.text in
    let ends = rw c.self.view_is at c.in_ok-end.ensures.end in
    let holds = authority_put set g.met.C.CharSet.above_ascii (g.R.Rule.test set) g.R.HeldRule.allows_scheme (g.met.R.HeldRule.by_scheme set) (g.met.R.HeldRule.references set)
    text c.args.at c.requires.stands (g.met.R.HeldRule.has_allowed_scheme set text known) (changed_part text c.args.at c.args.by) _ c.requires.test put in
    grind (arith, ends, holds)

pub returns : goal.returns
returns g c =
    let set = g.C.CharSet.tests in
    let text = c.args.self.now in
    let known = rw c.self.view_is at c.self.invariant.0 in
    let put = rw c.self.view_is at c.in_ok-end.ensures.text in
    let ends = rw c.self.view_is at c.in_ok-end.ensures.end in
    let holds = authority_put set g.met.C.CharSet.above_ascii (g.R.Rule.test set) g.R.HeldRule.allows_scheme (g.met.R.HeldRule.by_scheme set) (g.met.R.HeldRule.references set)
    text c.args.at c.requires.stands (g.met.R.HeldRule.has_allowed_scheme set text known) (changed_part text c.args.at c.args.by) _ c.requires.test put in
    record { text = put; stands = rw ends holds.stands; end = ends; err = tt; shorter = λ _. refl }

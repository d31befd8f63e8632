use Rattle.std.proofs.Common.{arith, ap}
use Rattle.iref_splice.specs.Changes.{part_at}
use Rattle.iref_path.specs.Rewriting.{rewritten, rewritten_at}
use Rattle.iref_reference_text.proofs.ReferenceTextLemmas.{in_rule_utf8}
use Rattle.iref_reference_text.proofs.PathRangeLemmas.{path_put, path_range_within}
use Rattle.iref_reference_text.proofs.reference_text.path.ReferenceTextPathTarget.rewrite.Goals as goal

pub rewrite_text-end-requires-clause-start_le_end : goal.rewrite_text-end-requires-clause-start_le_end
rewrite_text-end-requires-clause-start_le_end g c = (path_range_within g.C.CharSet.tests g.met.C.CharSet.above_ascii c.args.self.now c.args.after c.args.at c.requires.stands).start_le_end

pub rewrite_text-end-requires-clause-in_bounds : goal.rewrite_text-end-requires-clause-in_bounds
rewrite_text-end-requires-clause-in_bounds g c = grind (arith, path_range_within g.C.CharSet.tests g.met.C.CharSet.above_ascii c.args.self.now c.args.after c.args.at c.requires.stands)

pub rewrite_text-end-requires-clause-utf8 : goal.rewrite_text-end-requires-clause-utf8
rewrite_text-end-requires-clause-utf8 g c =
    let set = g.C.CharSet.tests in
    let text = c.args.self.now in
    let known = rw c.self.view_is at c.self.invariant.0 in
    let put = ap (λ t. rewritten_at c.args.guard.now t c.args.at) c.self.view_is in
    let holds = path_put set g.met.C.CharSet.above_ascii (g.R.Rule.test set) g.R.HeldRule.allows_scheme (g.met.R.HeldRule.by_scheme set) (g.met.R.HeldRule.references set)
    text c.args.after c.args.at c.requires.stands (g.met.R.HeldRule.has_allowed_scheme set text known) (rewritten c.args.guard.now (part_at text c.args.at)) _ c.requires.reads put in
    in_rule_utf8 _ _ ((g.R.Rule.decided set g.met.C.CharSet.above_ascii _).0 holds.leaves.in_rule)

pub invariant_of-self : goal.invariant_of-self
invariant_of-self g c =
    let set = g.C.CharSet.tests in
    let text = c.args.self.now in
    let known = rw c.self.view_is at c.self.invariant.0 in
    let put = rw c.self.view_is at c.rewrite_text-end.ensures.bytes in
    let holds = path_put set g.met.C.CharSet.above_ascii (g.R.Rule.test set) g.R.HeldRule.allows_scheme (g.met.R.HeldRule.by_scheme set) (g.met.R.HeldRule.references set)
    text c.args.after c.args.at c.requires.stands (g.met.R.HeldRule.has_allowed_scheme set text known) (rewritten c.args.guard.now (part_at text c.args.at)) _ c.requires.reads put in
    grind (arith, holds)

pub returns-clause-stands : goal.returns-clause-stands
returns-clause-stands g c =
    let set = g.C.CharSet.tests in
    let text = c.args.self.now in
    let known = rw c.self.view_is at c.self.invariant.0 in
    let put = rw c.self.view_is at c.rewrite_text-end.ensures.bytes in
    let holds = path_put set g.met.C.CharSet.above_ascii (g.R.Rule.test set) g.R.HeldRule.allows_scheme (g.met.R.HeldRule.by_scheme set) (g.met.R.HeldRule.references set)
    text c.args.after c.args.at c.requires.stands (g.met.R.HeldRule.has_allowed_scheme set text known) (rewritten c.args.guard.now (part_at text c.args.at)) _ c.requires.reads put in
    rw (c.rewrite_text-end.ensures.end, c.self.view_is) holds.stands

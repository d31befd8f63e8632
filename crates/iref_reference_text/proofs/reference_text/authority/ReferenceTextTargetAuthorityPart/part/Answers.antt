use Rattle.std.proofs.Common.{arith}
use Rattle.iref_reference_text.proofs.AuthorityRangeLemmas.{authority_in_rule, authority_range_within, range_is, some_if_placed}
use Rattle.iref_reference_text.proofs.reference_text.authority.ReferenceTextTargetAuthorityPart.part.Goals as goal

pub range-requires-clause-start_le_end : goal.range-requires-clause-start_le_end
range-requires-clause-start_le_end g c = (authority_range_within g.C.CharSet.tests g.met.C.CharSet.above_ascii c.args.self.now c.args.at c.requires).start_le_end

pub range-requires-clause-start_boundary : goal.range-requires-clause-start_boundary
range-requires-clause-start_boundary g c = λ _. rw (c.as_str.ensures.value, c.self.view_is) (authority_range_within g.C.CharSet.tests g.met.C.CharSet.above_ascii c.args.self.now c.args.at c.requires).start

pub range-requires-clause-end_boundary : goal.range-requires-clause-end_boundary
range-requires-clause-end_boundary g c = rw (c.as_str.ensures.value, c.self.view_is) (authority_range_within g.C.CharSet.tests g.met.C.CharSet.above_ascii c.args.self.now c.args.at c.requires).end

pub returns-clause-test : goal.returns-clause-test
returns-clause-test g c =
    let text = c.args.self.now in
    let there = authority_in_rule g.C.CharSet.tests g.met.C.CharSet.above_ascii text c.requires.0 (some_if_placed text _ c.requires.1) in
    grind (arith, there, range_is text _ c.requires.1)

use Rattle.std.proofs.Common.{arith}
use Rattle.iref_grammar.proofs.RangeLemmas.{path_range}
use Rattle.iref_reference_text.proofs.PathRangeLemmas.{path_stands, path_range_within}
use Rattle.iref_reference_text.proofs.reference_text.path.ReferenceTextTargetPathPart.part.Goals as goal

pub range-requires-clause-start_le_end : goal.range-requires-clause-start_le_end
range-requires-clause-start_le_end g c = (path_range_within g.C.CharSet.tests g.met.C.CharSet.above_ascii c.args.self.now c.args.after c.args.at c.requires).start_le_end

pub range-requires-clause-start_boundary : goal.range-requires-clause-start_boundary
range-requires-clause-start_boundary g c = λ _. rw (c.as_str.ensures.value, c.self.view_is) (path_range_within g.C.CharSet.tests g.met.C.CharSet.above_ascii c.args.self.now c.args.after c.args.at c.requires).start

pub range-requires-clause-end_boundary : goal.range-requires-clause-end_boundary
range-requires-clause-end_boundary g c = rw (c.as_str.ensures.value, c.self.view_is) (path_range_within g.C.CharSet.tests g.met.C.CharSet.above_ascii c.args.self.now c.args.after c.args.at c.requires).end

pub returns-clause-test : goal.returns-clause-test
returns-clause-test g c = grind (arith, path_range c.args.self.now, path_stands g.C.CharSet.tests g.met.C.CharSet.above_ascii c.args.self.now c.requires.0)

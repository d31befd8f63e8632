use Rattle.std.proofs.Common.{◌∙◌}
use Rattle.iref_grammar.proofs.NormalGrammarLemmas.{normal_in_grammar}
use Rattle.iref_component.specs.NormalLeft.{left_of}
use Rattle.iref_component.proofs.normal.NormalizedSegments.of_text.Goals as goal

pub invariant_of-result-clause-in_grammar : goal.invariant_of-result-clause-in_grammar
invariant_of-result-clause-in_grammar g c =
    normal_in_grammar _ g.met.C.CharSet.above_ascii c.args.path.now c.requires (left_of c.new.result) (c.new.ensures.items ∙ c.new-items.ensures.items)

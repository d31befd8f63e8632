use Rattle.iref_grammar.specs.Grammar.{slash}
use Rattle.iref_grammar.proofs.PieceLemmas.{some_piece}
use Rattle.iref_path.specs.{Bodies.{after_front}, MeasuredPaths.{measured_text}}
use Rattle.iref_path.proofs.DotlessLemmas.{both_pieces, dotless-spelled, first_of_both_texts}
use Rattle.std.proofs.Common.{arith}
use Rattle.iref_path.proofs.measured.MeasuredPath.dotless.Goals as goal

pub returns-clause-text : goal.returns-clause-text
unfolding measured_text
returns-clause-text c =
    let text = after_front c.args.front c.args.back.now in
    let some = some_piece slash text in
    let spelled = dotless-spelled c.args.context c.args.absolute text some.0 some.1 some.2 c.requires.dotless in
    let guarded = c.first_to_guard-first.ensures c.args.absolute c.len.result in
    grind (arith, first_of_both_texts c.args.front c.args.back, both_pieces c.args.front c.args.back.now)

use Rattle.std.proofs.{Common.{◌++◌, ◌∙◌, append_assoc, arith, length}, lemmas.List.{take_all}}
use Rattle.iref_grammar.specs.PathValue.{read_path}
use Rattle.iref_grammar.proofs.PathLemmas.{read_path-reads}
use Rattle.iref_path.proofs.{SlashLemmas.{is_empty-pieces}, StepTextLemmas.{first_pushed, next_pushed, put_to_end}}
use Rattle.iref_path.proofs.steps.push_text.Goals as goal

pub returns-then-is_some-clause-text : goal.returns-then-is_some-clause-text
returns-then-is_some-clause-text c =
    let path = c.args.path.now in
    grind (arith, append_assoc, put_to_end, take_all (length path) path, (read_path-reads path).spelled, is_empty-pieces, next_pushed c.args.context (read_path path) c.args.segment.now)

pub returns-clause-text : goal.returns-clause-text
returns-clause-text c =
    put_to_end c.args.path.now (c.guard.result.now ++ c.args.segment.now ++ c.args.close.now) 0
    ∙ grind (arith, append_assoc, is_empty-pieces, first_pushed c.args.context (read_path c.args.path.now) c.args.segment.now)

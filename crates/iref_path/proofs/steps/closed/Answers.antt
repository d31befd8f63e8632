use Rattle.std.proofs.{Common.{arith, ◌≡◌, ◌++◌, ◌∙◌, length, take}, lemmas.Str.{IsCharBoundary-end}}
use Rattle.std.proofs.lemmas.List.{append-nil, take_all}
use Rattle.iref_grammar.specs.PathValue.{read_path, spell_path}
use Rattle.iref_path.proofs.{StepValueLemmas.{steps_by, closed-step}, SlashLemmas.{is_empty-pieces}}
use Rattle.iref_path.proofs.StepTextLemmas.{closed_spelled, put_to_end, to_end}
use Rattle.iref_path.proofs.steps.closed.Goals.{then-has_segments, else-has_segments}
use Rattle.iref_grammar.proofs.PathLemmas.{read_path-reads}
use Rattle.iref_grammar.specs.PathSteps.{closed_path}
use Rattle.iref_path.proofs.steps.closed.Goals as goal

pub returns : goal.returns
returns g c =
    let path = c.args.path.now in
    let text : take (length path) path ++ c.if-has_segments.result.now ≡ spell_path (closed_path c.args.context (read_path path)) =
    grind (arith, append-nil, take_all (length path) path, (read_path-reads path).spelled, is_empty-pieces, closed_spelled c.args.context (read_path path)) in
    steps_by g.C.CharSet.tests g.met.C.CharSet.above_ascii c.args.context _ path _ (closed-step g.C.CharSet.tests c.args.context (read_path path)) c.requires.path (to_end path _ (IsCharBoundary-end path)) (put_to_end path _ _ ∙ text)

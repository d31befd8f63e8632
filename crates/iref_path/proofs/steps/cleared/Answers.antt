use Rattle.std.proofs.Common.{[], ◌∙◌}
use Rattle.iref_grammar.specs.PathValue.{read_path}
use Rattle.iref_path.proofs.StepTextLemmas.{cut_at_root, put_to_end, root_kept, to_end, unclosed_spelled}
use Rattle.iref_path.proofs.StepValueLemmas.{steps_by, cleared-step}
use Rattle.iref_path.proofs.steps.cleared.Goals as goal

pub returns-clause-step : goal.returns-clause-step
returns-clause-step g c =
    let path = c.args.path.now in
    let read = c.split_root.ensures.path in
    steps_by g.C.CharSet.tests g.met.C.CharSet.above_ascii c.args.context _ path _ (cleared-step g.C.CharSet.tests c.args.context (read_path path)) c.requires.path (to_end path _ (cut_at_root path c.utf8.path _ _ read _ c.from.ensures).range)
    (put_to_end path [] c.from.result ∙ root_kept path c.utf8.path _ _ read _ c.from.ensures [] _ (λ i. record { absolute = (read i).absolute; segments = [] }) ∙ unclosed_spelled _)

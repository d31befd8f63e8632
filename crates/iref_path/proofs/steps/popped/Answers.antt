use Rattle.std.proofs.Common.{◌∙◌}
use Rattle.iref_path.proofs.{StepTextLemmas.{unclosed_spelled}, StepValueLemmas.{steps_by, popped-step}}
use Rattle.iref_path.proofs.steps.popped.Goals as goal

pub returns : goal.returns
returns g c =
    steps_by g.C.CharSet.tests g.met.C.CharSet.above_ascii c.args.context _ c.args.path.now _ (popped-step _ c.args.context _) c.requires.path c.pop_text.ensures.within
    (c.pop_text.ensures.text ∙ unclosed_spelled _)

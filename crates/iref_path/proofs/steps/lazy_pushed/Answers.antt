use Rattle.std.proofs.{Common.{◌∙◌}, lemmas.List.{append-nil}}
use Rattle.iref_path.proofs.StepValueLemmas.{steps_by, lazy_pushed-step}
use Rattle.iref_path.proofs.steps.lazy_pushed.Goals as goal

pub returns : goal.returns
returns g c =
    steps_by g.C.CharSet.tests g.met.C.CharSet.above_ascii c.args.context _ c.args.path.now _ (lazy_pushed-step _ c.args.context _ c.args.segment.now c.requires.segment) c.requires.path c.push_text.ensures.within
    (c.push_text.ensures.text ∙ append-nil _)

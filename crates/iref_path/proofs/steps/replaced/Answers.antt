use Rattle.std.proofs.{Common.{refl, ◌∙◌}, lemmas.List.{append-nil}, lemmas.Str.{IsCharBoundary-start}}
use Rattle.iref_grammar.proofs.PathGrammarLemmas.{segments_of_path}
use Rattle.iref_path.proofs.{StepTextLemmas.{put_to_end, to_end}, StepValueLemmas.{steps_by, replaced-step}}
use Rattle.iref_path.proofs.steps.replaced.Goals as goal

pub returns : goal.returns
returns g c =
    let segments = segments_of_path g.C.CharSet.tests g.met.C.CharSet.above_ascii c.args.new.now _ refl c.requires.new in
    steps_by g.C.CharSet.tests g.met.C.CharSet.above_ascii c.args.context _ c.args.path.now _ (replaced-step _ c.args.context _ _ segments) c.requires.path (to_end c.args.path.now 0 (IsCharBoundary-start c.args.path.now c.utf8.path))
    (put_to_end c.args.path.now _ 0 ∙ append-nil _ ∙ c.guard_of.ensures.spelled)

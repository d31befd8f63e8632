use Rattle.std.proofs.{Common.{sym, ap, ◌∙◌}, lemmas.List.{append-nil}}
use Rattle.iref_grammar.specs.PathValue.{read_path, spell_path}
use Rattle.iref_path.proofs.{StepTextLemmas.{closed_spelled}, PopTextLemmas.{pushed_dot, pushed_parent, pushed_name}}
use Rattle.iref_path.proofs.StepValueLemmas.{steps_as, steps_by, pushed-step}
use Rattle.iref_path.proofs.steps.pushed.Goals as goal

pub returns-then-eq : goal.returns-then-eq
returns-then-eq g c =
    steps_as g.C.CharSet.tests c.args.context _ _ c.args.path.now _ (pushed_dot c.args.context c.args.segment.now _ (sym c.if-eq.ensures)) c.closed.ensures

pub returns-then-eq-2 : goal.returns-then-eq-2
returns-then-eq-2 g c =
    let step = pushed-step g.C.CharSet.tests c.args.context (read_path c.args.path.now) c.args.segment.now c.requires.segment in
    steps_by g.C.CharSet.tests g.met.C.CharSet.above_ascii c.args.context _ c.args.path.now _ step c.requires.path c.pop_text.ensures.within
    (c.pop_text.ensures.text ∙ closed_spelled c.args.context _ ∙ ap spell_path (sym (pushed_parent c.args.context c.args.segment.now _ (sym c.if-eq.ensures) (sym c.if-eq-2.ensures))))

pub returns-else-eq-2 : goal.returns-else-eq-2
returns-else-eq-2 g c =
    let step = pushed-step g.C.CharSet.tests c.args.context (read_path c.args.path.now) c.args.segment.now c.requires.segment in
    steps_by g.C.CharSet.tests g.met.C.CharSet.above_ascii c.args.context _ c.args.path.now _ step c.requires.path c.push_text.ensures.within
    (c.push_text.ensures.text ∙ append-nil _ ∙ ap spell_path (sym (pushed_name c.args.context c.args.segment.now _ (sym c.if-eq.ensures) (sym c.if-eq-2.ensures))))

use Rattle.std.proofs.{Common.{arith}, lemmas.List.Elements.{All-nil, All-push}}
use Rattle.iref_component.specs.Appends.{IsSegmentText}
use Rattle.iref_grammar.specs.PathSteps.{lazy_appended}
use Rattle.iref_component.proofs.ManyLemmas.{no_edit, lazy_edit}
use Rattle.iref_component.proofs.path_mut.PathMut.try_lazy_append.Goals as goal

pub loop-segment-init : goal.loop-segment-init
unfolding lazy_appended
loop-segment-init g c =
    let it = c.into_iter-segment-iterator in
    grind (arith, c.requires it.result it.ensures.into_iter_gives, All-nil (IsSegmentText g.C.CharSet.tests), no_edit {p = c.args.self.now} (g.T.Target.is_within _ _ _ _ c.args.self.now.placed))

pub loop-segment-preserved : goal.loop-segment-preserved
loop-segment-preserved g c =
    let at = c.loop-segment in
    let pushed = lazy_edit (g.T.Target.is_within _ _ _ _ c.args.self.now.placed) (λ item. item.now) at.yielded c.in-Some.segment at.invariant.path c.in_ok-try_lazy_push.ensures.edit.outcome in
    grind (arith, c.in-Some.ensures.goes.on at.invariant.ends, pushed, All-push (IsSegmentText g.C.CharSet.tests) at.yielded c.in-Some.segment at.invariant.segments c.in_ok-try_lazy_push.ensures.text)

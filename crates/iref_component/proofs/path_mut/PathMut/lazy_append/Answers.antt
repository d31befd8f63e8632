use Rattle.std.proofs.Common.{arith}
use Rattle.iref_component.specs.Components.{text_of}
use Rattle.iref_grammar.specs.PathSteps.{lazy_appended}
use Rattle.iref_component.proofs.ManyLemmas.{no_edit, lazy_edit}
use Rattle.iref_component.proofs.path_mut.PathMut.lazy_append.Goals as goal

pub loop-segment-init : goal.loop-segment-init
unfolding lazy_appended
loop-segment-init g c =
    let it = c.into_iter-segment-iterator in
    grind (arith, c.requires it.result it.ensures.into_iter_gives, no_edit {p = c.args.self.now} (g.T.Target.is_within _ _ _ _ c.args.self.now.placed))

pub loop-segment-preserved : goal.loop-segment-preserved
loop-segment-preserved g c =
    let at = c.loop-segment in
    let pushed = lazy_edit (g.T.Target.is_within _ _ _ _ c.args.self.now.placed) text_of at.yielded c.in-Some.segment at.invariant.path c.in_ok-lazy_push.ensures.outcome in
    grind (arith, c.in-Some.ensures.goes.on at.invariant.ends, pushed)

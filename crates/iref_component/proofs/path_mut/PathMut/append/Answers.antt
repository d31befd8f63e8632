use Rattle.std.proofs.Common.{arith, rules, sym, ◌∙◌}
use Rattle.iref_component.specs.Components.{text_of}
use Rattle.iref_component.proofs.ManyLemmas.{no_edit, followed_edit, dots_next, closed_edit, open_edit}
use Rattle.iref_component.proofs.path_mut.PathMut.append.Goals as goal

pub loop-segment-init : goal.loop-segment-init
loop-segment-init g c =
    let it = c.into_iter-segment-iterator in
    grind (arith, c.requires it.result it.ensures.into_iter_gives, no_edit {p = c.args.self.now} (g.T.Target.is_within _ _ _ _ c.args.self.now.placed))

pub loop-segment-preserved : goal.loop-segment-preserved
loop-segment-preserved g c =
    let at = c.loop-segment in
    let followed = followed_edit (g.T.Target.is_within _ _ _ _ c.args.self.now.placed) text_of at.yielded c.in-Some.segment at.invariant.path c.in_ok-follow.ensures.outcome in
    grind (arith, c.in-Some.ensures.goes.on at.invariant.ends, followed, dots_next text_of at.yielded c.in-Some.segment)

pub returns-in_ok-close-clause-edit : goal.returns-in_ok-close-clause-edit
returns-in_ok-close-clause-edit g c =
    grind (arith, closed_edit {p = c.args.self.now} {q = c.loop-segment.self} {r = c.close.new.self} (g.T.Target.is_within _ _ _ _ c.args.self.now.placed))

pub returns-else-ends_in_dots-clause-edit : goal.returns-else-ends_in_dots-clause-edit
returns-else-ends_in_dots-clause-edit g c =
    let it = c.into_iter-segment-iterator in
    let path = open_edit _ (sym c.loop-segment.invariant.dots ∙ c.if-ends_in_dots.false) c.loop-segment.invariant.path in
    (it.result, c.loop-segment.yielded, it.ensures.into_iter_gives, search rules, path)

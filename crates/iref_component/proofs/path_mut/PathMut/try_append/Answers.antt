use Rattle.std.proofs.{Common.{arith, rules, sym, ◌∙◌}, lemmas.List.Elements.{All-nil, All-push}}
use Rattle.std.proofs.lemmas.Result.{MatchResult-weaker}
use Rattle.iref_component.specs.{Appends.{IsSegmentText, following}, PathEdits.{Becomes}}
use Rattle.iref_component.proofs.ManyLemmas.{no_edit, refused_then, followed_edit, dots_next, closed_edit, open_edit}
use Rattle.iref_component.proofs.PathTryLemmas.{tries_to_close}
use Rattle.iref_component.proofs.path_mut.PathMut.try_append.Goals as goal

pub loop-segment-init : goal.loop-segment-init
loop-segment-init g c =
    let it = c.into_iter-segment-iterator in
    grind (arith, c.requires it.result it.ensures.into_iter_gives, All-nil (IsSegmentText g.C.CharSet.tests), no_edit {p = c.args.self.now} (g.T.Target.is_within _ _ _ _ c.args.self.now.placed))

pub loop-segment-preserved : goal.loop-segment-preserved
loop-segment-preserved g c =
    let at = c.loop-segment in
    let followed = followed_edit (g.T.Target.is_within _ _ _ _ c.args.self.now.placed) (λ item. item.now) at.yielded c.in-Some.segment at.invariant.path c.in_ok-try_follow.ensures.edit.outcome in
    let segments = All-push (IsSegmentText g.C.CharSet.tests) at.yielded c.in-Some.segment at.invariant.segments c.in_ok-try_follow.ensures.text in
    grind (arith, c.in-Some.ensures.goes.on at.invariant.ends, followed, segments, dots_next (λ item. item.now) at.yielded c.in-Some.segment)

pub returns-then-ends_in_dots-clause-edit : goal.returns-then-ends_in_dots-clause-edit
returns-then-ends_in_dots-clause-edit g c =
    let it = c.into_iter-segment-iterator in
    let dots = sym c.loop-segment.invariant.dots ∙ c.if-ends_in_dots.true in
    let path = c.loop-segment.invariant.path in
    let held = MatchResult-weaker c.close.result c.close.ensures.outcome (λ _ step. closed_edit (g.T.Target.is_within _ _ _ _ c.args.self.now.placed) _ dots path step) (λ _ same. refused_then path same) in
    rw c.or.ensures (tries_to_close following g.C.CharSet.tests g.I.IntoIterator.into_iter_gives g.I.IntoIter.Iterator.next_gives c.args.segments it.result c.loop-segment.yielded
    (Becomes c.args.self.now c.close.new.self) c.close.result it.ensures.into_iter_gives (search rules) c.loop-segment.invariant.segments dots held)

pub returns-else-ends_in_dots-clause-edit : goal.returns-else-ends_in_dots-clause-edit
returns-else-ends_in_dots-clause-edit g c =
    let it = c.into_iter-segment-iterator in
    let path = open_edit _ (sym c.loop-segment.invariant.dots ∙ c.if-ends_in_dots.false) c.loop-segment.invariant.path in
    (it.result, c.loop-segment.yielded, it.ensures.into_iter_gives, search rules, (c.loop-segment.invariant.segments, path))

use Rattle.std.proofs.Common.{arith, [], ◌+◌, length, sym, ap, ◌∙◌, ◌≡◌, cond, ◌==◌, Some, None, codes}
use Rattle.iref_path.proofs.StepTextLemmas.{cut_at_root, put_to_end, root_kept, to_end}
use Rattle.iref_path.proofs.PopTextLemmas.{read_none, read_last, read_by, popped_root, popped_nothing, popped_parent, push_closed, front_cut, front_text, none_left}
use Rattle.iref_path.proofs.steps.pop_text.Goals as goal
use Rattle.iref_path.proofs.steps.pop_text.Goals.{then-is_empty, else-is_empty}

pub returns-then-absolute-clause-within : goal.returns-then-absolute-clause-within
returns-then-absolute-clause-within c = to_end c.args.path.now _ (cut_at_root c.args.path.now c.utf8.path _ _ c.split_root-absolute.ensures.path _ c.from-root.ensures).range

pub returns-then-absolute-clause-text : goal.returns-then-absolute-clause-text
returns-then-absolute-clause-text c =
    let e = read_none c.args.path.now _ _ _ c.split_root-absolute.ensures.path c.in_default.is c.if-absolute.true in
    let root = ap (λ b. record { absolute = b; segments = [] }) (sym c.if-absolute.true) in
    put_to_end c.args.path.now [] c.from-root.result ∙ root_kept c.args.path.now c.utf8.path _ _ c.split_root-absolute.ensures.path _ c.from-root.ensures c.args.close.now _ (popped_root c.args.context _ e ∙ e ∙ root)

pub returns-else-absolute-clause-text : goal.returns-else-absolute-clause-text
returns-else-absolute-clause-text c =
    let e = read_none c.args.path.now _ _ _ c.split_root-absolute.ensures.path c.in_default.is c.if-absolute.false in
    c.push_text.ensures.text ∙ push_closed c.args.context (codes "..") c.args.close.now _ _ (popped_nothing c.args.context _ e)

pub returns-then-eq-clause-text : goal.returns-then-eq-clause-text
returns-then-eq-clause-text c =
    let e = read_last c.args.path.now _ _ c.in-Some.segments c.last_segment.result.0 c.last_segment.result.1.now c.split_root-absolute.ensures.path c.in-Some.is c.last_segment.ensures in
    c.push_text-then-eq.ensures.text ∙ push_closed c.args.context (codes "..") c.args.close.now _ _ (popped_parent c.args.context _ _ _ _ e (sym c.if-eq.ensures))

pub returns-after-is_empty-clause-within : goal.returns-after-is_empty-clause-within
returns-after-is_empty-clause-within c =
    let e = read_last c.args.path.now _ _ c.in-Some.segments c.last_segment.result.0 c.last_segment.result.1.now c.split_root-absolute.ensures.path c.in-Some.is c.last_segment.ensures in
    let f = read_by c.args.path.now _ _ (Some c.in-Some-front.front) c.last_segment.result.1.now e c.in-Some-front.is in
    to_end c.args.path.now _ (front_cut c.args.context c.args.path.now c.in-Some-front.front.now _ _ f _ (ap (λ n. n + length c.in-Some-front.front.now) c.from-root.ensures)).range

pub returns-after-is_empty-clause-text : goal.returns-after-is_empty-clause-text
returns-after-is_empty-clause-text c =
    let front = c.in-Some-front.front.now in
    let e = read_last c.args.path.now _ _ c.in-Some.segments c.last_segment.result.0 c.last_segment.result.1.now c.split_root-absolute.ensures.path c.in-Some.is c.last_segment.ensures in
    let f = read_by c.args.path.now _ _ (Some c.in-Some-front.front) c.last_segment.result.1.now e c.in-Some-front.is in
    let guard : c.if-is_empty.result.now ≡ cond (length front == 0) (codes "./") [] = grind arith in
    put_to_end c.args.path.now _ _ ∙ front_text c.args.context c.args.path.now front _ _ f (sym c.if-eq.ensures) _ _ c.args.close.now (ap (λ n. n + length front) c.from-root.ensures) guard

pub returns-in-None-clause-within : goal.returns-in-None-clause-within
returns-in-None-clause-within c = to_end c.args.path.now _ (cut_at_root c.args.path.now c.utf8.path _ _ c.split_root-absolute.ensures.path _ c.from-root.ensures).range

pub returns-in-None-clause-text : goal.returns-in-None-clause-text
returns-in-None-clause-text c =
    let e = read_last c.args.path.now _ _ c.in-Some.segments c.last_segment.result.0 c.last_segment.result.1.now c.split_root-absolute.ensures.path c.in-Some.is c.last_segment.ensures in
    let f = read_by c.args.path.now _ _ None c.last_segment.result.1.now e c.in-None.is in
    put_to_end c.args.path.now [] c.from-root.result ∙ root_kept c.args.path.now c.utf8.path _ _ c.split_root-absolute.ensures.path _ c.from-root.ensures c.args.close.now _ (none_left c.args.context _ _ _ f (sym c.if-eq.ensures))

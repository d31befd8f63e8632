use Rattle.std.proofs.Common.{rules, ◌&&◌, chars, IsUtf8, sym, ap, ◌∙◌}
use Rattle.iref.specs.PrefixLabels.{follow_pn_chars_base}
use Rattle.iref.proofs.PrefixLabelLemmas.{follows_none, follows_next}
use Rattle.iref.proofs.compact.label.may_follow.Goals as goal

pub returns-then-not-may_stand : goal.returns-then-not-may_stand
returns-then-not-may_stand c =
    let utf8 : IsUtf8 c.in-Some.behind.now = search rules in
    let next = follows_next c.loop-c.rest.now c.in-Some.behind.now c.in-Some.c c.in-Some.ensures.0 utf8 in
    sym (sym c.loop-c.invariant.1 ∙ next ∙ ap (λ b. b && follow_pn_chars_base (chars c.in-Some.behind.now)) (sym c.may_stand.ensures ∙ c.if-not-may_stand.true))

pub loop-c-preserved : goal.loop-c-preserved
loop-c-preserved c =
    let utf8 : IsUtf8 c.in-Some.behind.now = search rules in
    let next = follows_next c.loop-c.rest.now c.in-Some.behind.now c.in-Some.c c.in-Some.ensures.0 utf8 in
    (utf8, sym (next ∙ ap (λ b. b && follow_pn_chars_base (chars c.in-Some.behind.now)) (sym c.may_stand.ensures ∙ c.if-not-may_stand.false)) ∙ c.loop-c.invariant.1)

pub returns : goal.returns
returns c = sym (follows_none c.loop-c.rest.now c.in_default.ensures) ∙ c.loop-c.invariant.1

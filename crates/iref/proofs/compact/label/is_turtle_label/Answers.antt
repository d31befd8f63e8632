use Rattle.std.proofs.Common.{◌&&◌, chars, sym, ap, ◌∙◌}
use Rattle.iref.specs.PrefixLabels.{follow_pn_chars_base}
use Rattle.iref.proofs.PrefixLabelLemmas.{label_of_some}
use Rattle.iref.proofs.compact.label.is_turtle_label.Goals as goal

pub returns-then-is_pn_chars_base : goal.returns-then-is_pn_chars_base
returns-then-is_pn_chars_base c =
    let label = label_of_some c.args.text.now c.in-Some.behind.now c.in-Some.first c.in-Some.ensures.0 in
    c.may_follow.ensures ∙ sym (label ∙ ap (λ b. b && follow_pn_chars_base (chars c.in-Some.behind.now)) (sym c.is_pn_chars_base.ensures ∙ c.if-is_pn_chars_base.true))

pub returns-else-is_pn_chars_base : goal.returns-else-is_pn_chars_base
returns-else-is_pn_chars_base c =
    let label = label_of_some c.args.text.now c.in-Some.behind.now c.in-Some.first c.in-Some.ensures.0 in
    c.if-is_pn_chars_base.false ∙ sym (label ∙ ap (λ b. b && follow_pn_chars_base (chars c.in-Some.behind.now)) (sym c.is_pn_chars_base.ensures ∙ c.if-is_pn_chars_base.false))

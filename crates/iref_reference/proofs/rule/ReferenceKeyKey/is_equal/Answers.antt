use Rattle.std.proofs.Common.{◌∙◌}
use Rattle.std.specs.Ordering.{eq_by_cmp}
use Rattle.iref_grammar.specs.Key.{key, key_cmp}
use Rattle.iref_reference.proofs.PartLemmas.{parts_equal}
use Rattle.iref_reference.proofs.rule.ReferenceKeyKey.is_equal.Goals as goal

pub returns : goal.returns
returns g c =
    c.eq.ensures ∙ parts_equal c.of_text.result c.of_text-2.result
    ∙ (λ i. eq_by_cmp key_cmp (key (c.of_text.ensures.value i)) (key (c.of_text-2.ensures.value i)))

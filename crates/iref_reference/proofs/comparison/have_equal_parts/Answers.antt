use Rattle.std.proofs.Common.{◌∙◌}
use Rattle.std.specs.Ordering.{eq_by_cmp}
use Rattle.iref_grammar.specs.Key.{key, key_cmp}
use Rattle.iref_reference.proofs.PartLemmas.{parts_equal}
use Rattle.iref_reference.proofs.comparison.have_equal_parts.Goals as goal

pub returns : goal.returns
returns g c =
    c.eq.ensures ∙ parts_equal c.reference_parts.result c.reference_parts-2.result
    ∙ (λ i. eq_by_cmp key_cmp (key (c.reference_parts.ensures.value i)) (key (c.reference_parts-2.ensures.value i)))

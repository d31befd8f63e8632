use Rattle.std.proofs.Common.{◌≡◌, arith, ◌∙◌}
use Rattle.iref_grammar.specs.Key.{key_cmp}
use Rattle.iref_reference.specs.References.{key_of_reference}
use Rattle.iref.proofs.TextOrderLemmas.{order_of_keys}
use Rattle.iref.proofs.lists.KeyedOrd.cmp.Goals as goal

pub returns : goal.returns
returns g c =
    let a = key_of_reference c.self.inside.reference in
    let b = key_of_reference c.other.inside.reference in
    let by_keys : c.order_of.result ≡ key_cmp a b = c.order_of.ensures ∙ order_of_keys a b _ _ c.self.invariant c.other.invariant in
    grind (arith, by_keys, c.self.view_is, c.other.view_is)

use Rattle.std.proofs.{Common.{◌≡◌, ap, arith, sym, ◌∙◌}, lemmas.Map.Text.{is_eq-slice_cmp}}
use Rattle.std.specs.Ordering.{is_eq}
use Rattle.iref_grammar.specs.Key.{key_cmp}
use Rattle.iref_reference.specs.References.{key_of_reference}
use Rattle.iref.proofs.TextOrderLemmas.{order_of_keys}
use Rattle.iref.proofs.lists.KeyedPartialEq.eq.Goals as goal

pub returns : goal.returns
returns g c =
    let a = key_of_reference c.self.inside.reference in
    let b = key_of_reference c.other.inside.reference in
    let by_keys : c.eq.result ≡ is_eq (key_cmp a b) =
    c.eq.ensures ∙ sym (is_eq-slice_cmp c.self.inside.key.now c.other.inside.key.now) ∙ ap is_eq (order_of_keys a b _ _ c.self.invariant c.other.invariant) in
    grind (arith, by_keys, c.self.view_is, c.other.view_is)

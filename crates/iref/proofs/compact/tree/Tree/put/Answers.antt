use Rattle.std.proofs.{Common.{arith, rules, ◌≡◌, length, get_or, refl, inl, inr, ap, subst, ◌∙◌, Some, None}, Math.ListN.{set}}
use Rattle.std.specs.Vec.{with_item}
use Rattle.iref.specs.{PrefixTree.{with_child, IsWay}, declared.compact.tree.Child.TheVariants.{Inner}}
use Rattle.iref.proofs.{PrefixGrownLemmas.{made, grown_above, grown_below}, PrefixInsertLemmas.{tree_grown}}
use Rattle.iref.proofs.compact.tree.Tree.put.Goals.{then-is_in, else-is_in}
use Rattle.iref.proofs.compact.tree.Tree.put.Goals as goal

pub returns : goal.returns
returns c = λ texts n h.
    let old = c.args.self.now in
    let way = c.way-above.ensures texts n h.new in
    let link : IsWay texts old c.args.text.now n c.args.bit (Some (c.in-Some.at, c.in-Some.side)) c.way-above.result.1 = subst (λ l. IsWay texts old c.args.text.now n c.args.bit l c.way-above.result.1) c.in-Some.is way.0 in
    let node_made = made texts old c.args.text.now n c.args.bit c.args.entry c.args.number h c.if-is_in.node c.way-above.result.1 c.is_in.result c.is_in.ensures
    (elim c.if-is_in.branch [ then-is_in w ↦ inl (w.if-is_in.true, w.node-is) | else-is_in w ↦ inr (w.if-is_in.false, w.node-is) ]) in
    let last : c.len.result ≡ length old.nodes.items = search rules in
    let node = c.index_mut.result.now in
    let pushed = c.push_reserved.ensures.items in
    let put : c.set_child.new.self ≡ with_child node c.in-Some.side (Inner (length old.nodes.items)) = c.set_child.ensures ∙ ap (λ k. with_child node c.in-Some.side (Inner k)) last in
    tree_grown texts old c.args.text.now n c.args.bit h.new (Some (c.in-Some.at, c.in-Some.side)) c.way-above.result.1 link way.1 _ c.if-is_in.node node_made
    (grown_below old c.if-is_in.node old.root (with_item c.push_reserved.new.self c.in-Some.at c.set_child.new.self) old.front old.last c.in-Some.at c.in-Some.side node link.above.0
    (subst (λ l. node ≡ get_or l c.in-Some.at node) pushed c.index_mut.ensures.value) (λ i. set (pushed i) c.in-Some.at (put i)) refl)
    (record { stays = λ j _. (refl, refl); moves = λ is. cc is })

pub returns-in_default : goal.returns-in_default
returns-in_default c = λ texts n h.
    let old = c.args.self.now in
    let way = c.way-above.ensures texts n h.new in
    let link : IsWay texts old c.args.text.now n c.args.bit None c.way-above.result.1 = subst (λ l. IsWay texts old c.args.text.now n c.args.bit l c.way-above.result.1) c.in_default.is way.0 in
    let node_made = made texts old c.args.text.now n c.args.bit c.args.entry c.args.number h c.if-is_in.node c.way-above.result.1 c.is_in.result c.is_in.ensures
    (elim c.if-is_in.branch [ then-is_in w ↦ inl (w.if-is_in.true, w.node-is) | else-is_in w ↦ inr (w.if-is_in.false, w.node-is) ]) in
    let last : c.len.result ≡ length old.nodes.items = search rules in
    tree_grown texts old c.args.text.now n c.args.bit h.new None c.way-above.result.1 link way.1 _ c.if-is_in.node node_made
    (grown_above old c.if-is_in.node _ c.push_reserved.new.self c.args.bit.at c.byte_before-self.result c.push_reserved.ensures.items (ap (λ k. Some (Inner k)) last))
    (record { stays = λ j is. cc is; moves = λ _. (refl, c.byte_before-self.ensures) })

pub byte_before-self-requires : goal.byte_before-self-requires
byte_before-self-requires c = let l = c.requires.added.2.new.inside in omega arith

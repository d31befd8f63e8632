use Rattle.std.proofs.Common.{arith, ◌≡◌, inl, inr, true, length, get_or, refl, sym, ap, subst, ◌∙◌, None}
use Rattle.iref.specs.declared.compact.tree.Child.TheVariants.{Inner, Leaf}
use Rattle.iref.specs.PrefixTree.{all_of, keys_of, leads_of, places_of, child}
use Rattle.iref.proofs.PrefixFindLemmas.{lead_read}
use Rattle.iref.proofs.PrefixWayLemmas.{node_first, root_link, way_root, way_next, goes_right, bits_fewer, way_to_leaf, way_to_inner, EndsAt, ends_before, goes_before}
use Rattle.iref.proofs.compact.tree.Tree.near.Goals as goal
use Rattle.iref.proofs.compact.tree.Tree.near.Goals.{in-Inner+then-end-node, in_default, in-Inner-child, in-Leaf}

pub loop-child-init : goal.loop-child-init
loop-child-init c =
    let texts = keys_of c.args.key (all_of c.args.entries.now) in
    way_root texts (places_of c.args.entries.now) c.args.self.now.nodes.items c.args.text.now c.args.len c.in_ok-child.child (root_link texts c.args.self.now c.in_ok-child.child c.requires.tree c.in_ok-child.was)

pub loop-child-preserved-then-node-eq-GOES_ON : goal.loop-child-preserved-then-node-eq-GOES_ON
loop-child-preserved-then-node-eq-GOES_ON c =
    let places = (places_of c.args.entries.now) in
    let texts = keys_of c.args.key (all_of c.args.entries.now) in
    let node = c.index-node.result.now in
    let before = goes_before node.bit.at c.args.len (length c.args.text.now) c.end_of-end.ensures c.if-end-node.false in
    way_next texts places c.args.self.now c.args.text.now c.args.len c.requires.tree c.in-Inner.at node c.loop-child.child node.right c.loop-child.ended c.or-ended.result c.lead.result
    c.loop-child.invariant c.in-Inner.is c.index-node.ensures before.0 (goes_right c.args.text.now node c.if-node-eq-GOES_ON.true before.1)
    (inl (c.if-node-eq-GOES_ON.true, lead_read texts places (leads_of c.args.key c.args.entries.now) node.entry c.lead.result c.requires.led (node_first texts c.args.self.now c.requires.tree c.in-Inner.at node c.loop-child.invariant.stands c.in-Inner.is c.index-node.ensures) c.lead.ensures, c.or-ended.ensures))

pub loop-child-preserved : goal.loop-child-preserved
loop-child-preserved c =
    let places = (places_of c.args.entries.now) in
    let texts = keys_of c.args.key (all_of c.args.entries.now) in
    let node = c.index-node.result.now in
    let before = goes_before node.bit.at c.args.len (length c.args.text.now) c.end_of-end.ensures c.if-end-node.false in
    way_next texts places c.args.self.now c.args.text.now c.args.len c.requires.tree c.in-Inner.at node c.loop-child.child c.child-child.result c.loop-child.ended c.loop-child.ended None
    c.loop-child.invariant c.in-Inner.is c.index-node.ensures before.0 (c.child-child.ensures ∙ ap (child node) c.is_in.ensures) (inr (c.if-node-eq-GOES_ON.false, refl))

pub loop-child-smaller-then-node-eq-GOES_ON : goal.loop-child-smaller-then-node-eq-GOES_ON
loop-child-smaller-then-node-eq-GOES_ON c =
    let texts = keys_of c.args.key (all_of c.args.entries.now) in
    let before = goes_before c.index-node.result.now.bit.at c.args.len (length c.args.text.now) c.end_of-end.ensures c.if-end-node.false in
    bits_fewer texts c.args.self.now c.args.len c.in-Inner.at c.index-node.result.now c.loop-child.child true c.requires.tree c.loop-child.invariant.stands c.in-Inner.is c.index-node.ensures before.0

pub returns : goal.returns
returns c =
    let places = (places_of c.args.entries.now) in
    let texts = keys_of c.args.key (all_of c.args.entries.now) in
    let way = c.loop-child.invariant in
    let ends : EndsAt texts places c.args.self.now c.args.text.now c.args.len c.requires.tree c.match-child-2.number c.loop-child.ended = elim c.match-child-2.branch [
      | in-Inner-child w ↦ elim c.match-child.branch [
        | in-Inner+then-end-node v ↦
            let same : v.in-Inner.at ≡ w.in-Inner-child.at = cc (v.child-is, w.in-Inner-child.is) in
            let at_is : c.loop-child.child ≡ Inner w.in-Inner-child.at = v.in-Inner.is ∙ ap (λ k. Inner k) same in
            let node = v.index-node.result.now in
            let short = ends_before node.bit.at c.args.len (length c.args.text.now) c.end_of-end.ensures v.if-end-node.true in
            way_to_inner texts places c.args.self.now c.args.text.now c.args.len c.requires.tree c.loop-child.child w.in-Inner-child.at c.match-child-2.number node w.index.result.now c.loop-child.ended (λ k. omega (arith, c.type_inv.text k)) c.requires.len way
            at_is (subst (λ k. node ≡ get_or c.args.self.now.nodes.items k node) same v.index-node.ensures) short w.index.ensures w.number-is
        | in_default v ↦ absurd (v.in_default.not-Inner w.in-Inner-child.at (sym v.child-is ∙ w.in-Inner-child.is))
      ]
      | in-Leaf w ↦
          let leaf : c.loop-child.child ≡ Leaf c.match-child-2.number = elim c.match-child.branch [
            | in-Inner+then-end-node v ↦ absurd (cc (v.child-is, w.in-Leaf.is))
            | in_default v ↦ sym v.child-is ∙ w.in-Leaf.is ∙ ap (λ n. Leaf n) (sym w.number-is)
          ] in
          way_to_leaf texts places c.args.self.now c.args.text.now c.args.len c.requires.tree c.loop-child.child c.match-child-2.number c.loop-child.ended (λ k. omega (arith, c.type_inv.text k)) way leaf
    ] in
    record { first = ends.0; is = c.text-text.ensures; bytes = λ k. omega (arith, c.type_inv.text k); nearest = ends.1; ended = ends.2 }

use Rattle.std.proofs.{Common.{sym, ◌∙◌}, lemmas.Bool.{ltb-true, ltb-false}}
use Rattle.iref.proofs.PrefixNewTextLemmas.{way_from_root, way_down, behind_node, behind_leaf}
use Rattle.iref.proofs.compact.tree.Tree.way.Goals as goal

pub loop-child-init : goal.loop-child-init
loop-child-init c = λ texts n h. way_from_root texts c.args.self.now c.args.text.now n c.args.bit h c.unwrap_or-child.result c.unwrap_or-child.ensures

pub loop-child-preserved : goal.loop-child-preserved
loop-child-preserved c = λ texts n h.
    way_down texts c.args.self.now c.args.text.now n c.args.bit h c.loop-child.above c.in-Inner.at c.index-node.result.now c.loop-child.child c.child-child.result c.is_in-side.result
    (c.loop-child.invariant texts n h) c.in-Inner.is c.index-node.ensures (ltb-true _ _ (sym c.is_before.ensures ∙ c.if-not-is_before.false)) c.is_in-side.ensures c.child-child.ensures

pub returns-then-not-is_before : goal.returns-then-not-is_before
returns-then-not-is_before c = λ texts n h.
    behind_node texts c.args.self.now c.args.text.now n c.args.bit h c.loop-child.above c.loop-child.child c.in-Inner.at c.index-node.result.now
    (c.loop-child.invariant texts n h) c.in-Inner.is c.index-node.ensures (ltb-false _ _ (sym c.is_before.ensures ∙ c.if-not-is_before.true))

pub returns-in_default : goal.returns-in_default
returns-in_default c = λ texts n h.
    behind_leaf texts c.args.self.now c.args.text.now n c.args.bit h c.loop-child.above c.loop-child.child c.in_default.field-0 (c.loop-child.invariant texts n h) c.in_default.is

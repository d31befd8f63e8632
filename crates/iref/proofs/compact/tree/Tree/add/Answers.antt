use Rattle.std.proofs.Common.{arith, ◌≤◌, [], ◌∷◌, ◌++◌, length, inl, inr, sym, subst, ◌∙◌, nat_eq}
use Rattle.std.proofs.lemmas.List.Sums.{common_prefix_len-le}
use Rattle.iref.specs.PrefixTree.{all_of, keys_of, places_of, AreBytes, IsFirstOf}
use Rattle.iref.proofs.{PrefixFindLemmas.{rows_texts}, PrefixBitLemmas.{common_bits, symbols_differ, same_whole}}
use Rattle.iref.proofs.{PrefixGrownLemmas.{lowered, added, tree_again}, PrefixNewTextLemmas.{first_again, first_of_all, new_absent}}
use Rattle.iref.proofs.compact.tree.Tree.add.Goals.{else-at-text-via-then-at-text+else-at-near, else-at-text-via-else-at-text, then-at-near-2, else-at-near-2}
use Rattle.iref.proofs.compact.tree.Tree.add.Goals as goal

pub returns-then-at-near-clause-tree : goal.returns-then-at-near-clause-tree
returns-then-at-near-clause-tree c =
    let texts = keys_of c.args.key (all_of c.args.entries.now) in
    let t = c.args.text.now in
    let near = c.in-Some.near in
    let is = c.in-Some.ensures in
    let bytes : AreBytes t = λ k. omega (arith, c.type_inv.text k) in
    let own : AreBytes near.text.now = subst AreBytes (sym is.is) (c.requires.tree.bytes near.number is.first.within) in
    let least : c.min-self.result ≤ c.args.self.now.least = omega (arith, c.min-self.ensures) in
    let short : c.min-self.result ≤ length t = omega (arith, c.min-self.ensures) in
    let tree = lowered texts c.args.self.now c.min-self.result least c.requires.tree in
    tree_again texts _ t bytes short tree near.number is.first.within (sym is.is ∙ same_whole near.text.now t c.common_front-at.result own bytes c.common_front-at.ensures c.if-at-near.true c.if-at-text.true)

pub of_difference-bit-requires-clause-same : goal.of_difference-bit-requires-clause-same
of_difference-bit-requires-clause-same c = common_bits c.in-Some.near.text.now c.args.text.now c.common_front-at.result c.common_front-at.ensures

pub of_difference-bit-requires-clause-differ : goal.of_difference-bit-requires-clause-differ
of_difference-bit-requires-clause-differ c =
    let t = c.args.text.now in
    let near = c.in-Some.near in
    let is = c.in-Some.ensures in
    let own : AreBytes near.text.now = subst AreBytes (sym is.is) (c.requires.tree.bytes near.number is.first.within) in
    symbols_differ near.text.now t c.common_front-at.result own (λ k. omega (arith, c.type_inv.text k)) c.common_front-at.ensures
    (elim c.else-at-text.branch [
      | else-at-text-via-then-at-text+else-at-near w ↦ let ne = w.if-at-near.false in let short = common_prefix_len-le nat_eq near.text.now t in inl (omega (arith, short.0, c.common_front-at.ensures))
      | else-at-text-via-else-at-text w ↦ let ne = w.if-at-text.false in let short = common_prefix_len-le nat_eq near.text.now t in inr (omega (arith, short.1, c.common_front-at.ensures))
    ])

pub put-requires-clause-added : goal.put-requires-clause-added
put-requires-clause-added c =
    let texts = keys_of c.args.key (all_of c.args.entries.now) in
    let t = c.args.text.now in
    let near = c.in-Some.near in
    let least : c.min-self.result ≤ c.args.self.now.least = omega (arith, c.min-self.ensures) in
    let tree = lowered texts c.args.self.now c.min-self.result least c.requires.tree in
    let is = added texts (places_of c.args.entries.now) _ t tree (λ k. omega (arith, c.type_inv.text k)) (omega (arith, c.min-self.ensures)) near c.in-Some.ensures c.of_difference-bit.result c.common_front-at.result c.if-at-near-2.entry
    c.len-number.result c.common_front-at.ensures c.of_difference-bit.ensures.split c.of_difference-bit.ensures.at (omega (arith, c.len-number.ensures, rows_texts c.args.key c.args.entries.now))
    (elim c.if-at-near-2.branch [ then-at-near-2 w ↦ inl (w.if-at-near-2.true, w.entry-is) | else-at-near-2 w ↦ inr (w.if-at-near-2.false, w.entry-is) ]) in
    (texts, c.in-Some.near.number, is)

pub returns-clause-tree : goal.returns-clause-tree
returns-clause-tree c =
    let texts = keys_of c.args.key (all_of c.args.entries.now) in
    let t = c.args.text.now in
    let near = c.in-Some.near in
    let least : c.min-self.result ≤ c.args.self.now.least = omega (arith, c.min-self.ensures) in
    let tree = lowered texts c.args.self.now c.min-self.result least c.requires.tree in
    let is = added texts (places_of c.args.entries.now) _ t tree (λ k. omega (arith, c.type_inv.text k)) (omega (arith, c.min-self.ensures)) near c.in-Some.ensures c.of_difference-bit.result c.common_front-at.result c.if-at-near-2.entry
    c.len-number.result c.common_front-at.ensures c.of_difference-bit.ensures.split c.of_difference-bit.ensures.at (omega (arith, c.len-number.ensures, rows_texts c.args.key c.args.entries.now))
    (elim c.if-at-near-2.branch [ then-at-near-2 w ↦ inl (w.if-at-near-2.true, w.entry-is) | else-at-near-2 w ↦ inr (w.if-at-near-2.false, w.entry-is) ]) in
    c.put.ensures texts c.in-Some.near.number is

pub returns-then-at-near-clause-first : goal.returns-then-at-near-clause-first
returns-then-at-near-clause-first c =
    let texts = keys_of c.args.key (all_of c.args.entries.now) in
    let t = c.args.text.now in
    let near = c.in-Some.near in
    let is = c.in-Some.ensures in
    let own : AreBytes near.text.now = subst AreBytes (sym is.is) (c.requires.tree.bytes near.number is.first.within) in
    first_again texts t t near.number (is.first, sym is.is ∙ same_whole near.text.now t c.common_front-at.result own (λ k. omega (arith, c.type_inv.text k)) c.common_front-at.ensures c.if-at-near.true c.if-at-text.true)

pub returns-clause-first : goal.returns-clause-first
returns-clause-first c =
    let all = (all_of c.args.entries.now) in
    let texts = keys_of c.args.key all in
    let t = c.args.text.now in
    let near = c.in-Some.near in
    let least : c.min-self.result ≤ c.args.self.now.least = omega (arith, c.min-self.ensures) in
    let tree = lowered texts c.args.self.now c.min-self.result least c.requires.tree in
    let is = added texts (places_of c.args.entries.now) _ t tree (λ k. omega (arith, c.type_inv.text k)) (omega (arith, c.min-self.ensures)) near c.in-Some.ensures c.of_difference-bit.result c.common_front-at.result c.if-at-near-2.entry
    c.len-number.result c.common_front-at.ensures c.of_difference-bit.ensures.split c.of_difference-bit.ensures.at (omega (arith, c.len-number.ensures, rows_texts c.args.key c.args.entries.now))
    (elim c.if-at-near-2.branch [ then-at-near-2 w ↦ inl (w.if-at-near-2.true, w.entry-is) | else-at-near-2 w ↦ inr (w.if-at-near-2.false, w.entry-is) ]) in
    subst (IsFirstOf (texts ++ t ∷ []) t) (sym is.last) (first_of_all texts t (new_absent texts _ t near.number c.of_difference-bit.result is.new))

use Rattle.std.proofs.Common.{rules, arith, ◌≡◌, length, ap, sym, subst, ◌∙◌, None, MatchOption}
use Rattle.std.proofs.lemmas.Bool.{both_ways}
use Rattle.std.specs.Cmp.Lexicographic.{bytes_decides}
use Rattle.iref.specs.PrefixTree.{all_of, keys_of, places_of, AreBytes, IsAbsent, IsFirstOf}
use Rattle.iref.proofs.PrefixFindLemmas.{none_fits_absent, near_is_not}
use Rattle.iref.proofs.compact.tree.Tree.number_of.Goals as goal

pub returns-then-not-may_fit : goal.returns-then-not-may_fit
returns-then-not-may_fit c =
    let texts = keys_of c.args.key (all_of c.args.entries.now) in
    none_fits_absent texts c.args.text.now (c.may_fit.ensures c.if-not-may_fit.true texts c.requires.tree)

pub returns-in_err-near : goal.returns-in_err-near
returns-in_err-near c =
    let texts = keys_of c.args.key (all_of c.args.entries.now) in
    let none : c.from_residual.result ≡ None = search rules in
    subst (λ o. MatchOption o (IsAbsent texts c.args.text.now) (IsFirstOf texts c.args.text.now)) (sym none) (λ n l _. absurd (omega (arith, ap length c.in_err-near.ensures)))

pub returns-then-eq : goal.returns-then-eq
returns-then-eq c =
    let is = c.in_ok-near.ensures in
    (is.first, sym is.is ∙ (bytes_decides c.in_ok-near.near.text.now c.args.text.now).0 (sym c.eq.ensures ∙ c.if-eq.true))

pub returns-else-eq : goal.returns-else-eq
returns-else-eq c =
    let near = c.in_ok-near.near in
    let is = c.in_ok-near.ensures in
    let own : AreBytes near.text.now = subst AreBytes (sym is.is) (c.requires.tree.bytes near.number is.first.within) in
    near_is_not (keys_of c.args.key (all_of c.args.entries.now)) (places_of c.args.entries.now) c.args.text.now near own is
    (λ same. both_ways _ (sym c.eq.ensures ∙ c.if-eq.false) ((bytes_decides near.text.now c.args.text.now).1 same))

use Rattle.std.proofs.{Common.{arith, ◌<◌}, lemmas.Bool.{eqb-false}}
use Rattle.iref.proofs.PrefixFindLemmas.{too_short, front_fits}
use Rattle.iref.proofs.compact.tree.Tree.may_fit.Goals as goal

pub returns-then-text-self : goal.returns-then-text-self
returns-then-text-self c = λ _ texts tree. too_short texts c.args.self.now c.args.text.now tree c.if-text-self.true

pub returns-then-front-text : goal.returns-then-front-text
returns-then-front-text c = λ differs texts tree n fit.
    let some : 0 < c.args.self.now.front = (let ne = c.if-front-eq0.false in omega arith) in
    let same = front_fits texts c.args.self.now c.args.text.now tree (λ k. omega (arith, c.type_inv.text k)) n fit some in
    eqb-false _ _ differs same.1

pub returns-else-front-text : goal.returns-else-front-text
returns-else-front-text c = λ _ texts tree n fit.
    let some : 0 < c.args.self.now.front = (let ne = c.if-front-eq0.false in omega arith) in
    let same = front_fits texts c.args.self.now c.args.text.now tree (λ k. omega (arith, c.type_inv.text k)) n fit some in
    let long = c.if-front-text.false in
    omega (arith, same.0)

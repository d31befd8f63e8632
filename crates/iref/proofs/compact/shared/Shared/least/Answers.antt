use Rattle.std.proofs.Common.{rules, ◌≡◌, ℕ, ◌<◌, true, false, sym, subst, MatchOption, None}
use Rattle.iref.specs.PrefixPlaces.{holds}
use Rattle.iref.proofs.PrefixSharedLemmas.{no_place, first_place}
use Rattle.iref.proofs.compact.shared.Shared.least.Goals as goal

pub returns-in_err-pair : goal.returns-in_err-pair
returns-in_err-pair c =
    let none : c.from_residual.result ≡ None = search rules in
    subst (λ o. MatchOption o ((p : ℕ) → holds c.args.self.now c.args.iri p ≡ false) (λ p. (holds c.args.self.now c.args.iri p ≡ true) × ((q : ℕ) → q < p → holds c.args.self.now c.args.iri q ≡ false))) (sym none)
    (no_place c.args.self.now c.args.iri c.range.result (c.range.ensures.in_range tt) c.in_err-pair.ensures.steps.0)

pub returns : goal.returns
returns c = first_place c.args.self.now c.args.iri c.range.result (c.range.ensures.in_range tt) c.in_ok-pair.pair.now c.next.new.self c.in_ok-pair.ensures.steps

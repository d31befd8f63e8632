use Rattle.std.proofs.Common.{subst, sym, ◌∙◌}
use Rattle.iref.specs.PrefixPlaces.{ArePlaces}
use Rattle.iref.proofs.PrefixSharedLemmas.{holds_less, not_first, others_less, places_less, places_next, the_first}
use Rattle.iref.proofs.compact.shared.Shared.remove.Goals as goal

pub returns-then-ne-clause-others : goal.returns-then-ne-clause-others
returns-then-ne-clause-others c =
    let old = c.args.self.now in
    others_less old (record { pairs = c.remove.new.self }) c.args.iri c.args.place (holds_less old (record { pairs = c.remove.new.self }) c.args.iri c.args.place c.remove.ensures.updates)

pub returns-then-ne-clause-left : goal.returns-then-ne-clause-left
returns-then-ne-clause-left c = λ h are.
    let old = c.args.self.now in
    let other = not_first c.args.first c.args.place (sym c.ne.ensures ∙ c.if-ne.true) in
    places_less old c.args.iri c.args.place h (record { pairs = c.remove.new.self }) c.args.first other are
    (holds_less old (record { pairs = c.remove.new.self }) c.args.iri c.args.place c.remove.ensures.updates)

pub returns-clause-others : goal.returns-clause-others
returns-clause-others c =
    let old = c.args.self.now in
    others_less old (record { pairs = c.remove-2.new.self }) c.args.iri c.in_ok-next.next (holds_less old (record { pairs = c.remove-2.new.self }) c.args.iri c.in_ok-next.next c.remove-2.ensures.updates)

pub returns-clause-left : goal.returns-clause-left
returns-clause-left c = λ h are.
    let old = c.args.self.now in
    let is = the_first c.args.first c.args.place (sym c.ne.ensures ∙ c.if-ne.false) in
    places_next old c.args.iri c.args.place h (record { pairs = c.remove-2.new.self }) c.in_ok-next.next c.in_ok-next.ensures.0 c.in_ok-next.ensures.1 (subst (λ o. ArePlaces old c.args.iri o h) is are)
    (holds_less old (record { pairs = c.remove-2.new.self }) c.args.iri c.in_ok-next.next c.remove-2.ensures.updates)

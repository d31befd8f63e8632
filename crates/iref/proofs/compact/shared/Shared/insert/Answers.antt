use Rattle.std.proofs.Common.{subst}
use Rattle.iref.specs.PrefixPlaces.{ArePlaces}
use Rattle.iref.proofs.PrefixSharedLemmas.{holds_more, others_more, places_begun, places_more}
use Rattle.iref.proofs.compact.shared.Shared.insert.Goals as goal

pub returns-in_default-clause-ok : goal.returns-in_default-clause-ok
returns-in_default-clause-ok c = λ h free are.
    let old = c.args.self.now in
    places_begun old c.args.iri c.args.place h (subst (λ o. ArePlaces old c.args.iri o h) c.in_default.is are)

pub returns-clause-others : goal.returns-clause-others
returns-clause-others c =
    let old = c.args.self.now in
    others_more old (record { pairs = c.insert.new.self }) c.args.iri c.max.result (holds_more old (record { pairs = c.insert.new.self }) c.args.iri c.max.result c.in_ok-insert.ensures.updates)

pub returns-clause-ok : goal.returns-clause-ok
returns-clause-ok c = λ h free are.
    let old = c.args.self.now in
    places_more old c.args.iri c.args.place h (record { pairs = c.insert.new.self }) c.in-Some.first c.min.result c.max.result c.min.ensures c.max.ensures free (subst (λ o. ArePlaces old c.args.iri o h) c.in-Some.is are)
    (holds_more old (record { pairs = c.insert.new.self }) c.args.iri c.max.result c.in_ok-insert.ensures.updates)

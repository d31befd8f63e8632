use Rattle.std.proofs.{Common.{ap, ◌∙◌}, Math.ListN.{set}, Math.Seq.{map-set_same}, lemmas.List.{map-set}}
use Rattle.iref.specs.declared.compact.entry.Row.{Row}
use Rattle.iref.proofs.compact.entry.Entries.set_place.Goals as goal

pub returns-clause-all : goal.returns-clause-all
returns-clause-all c =
    map-set_same (λ (row : Row). row.entry) _ c.args.label _ c.index_mut-2.result.now (ap (λ (row : Row). row.entry) c.index_mut-2.ensures.value)
    ∙ map-set_same (λ (row : Row). row.entry) _ c.args.place _ c.index_mut.result.now (ap (λ (row : Row). row.entry) c.index_mut.ensures.value)

pub returns-clause-places : goal.returns-clause-places
returns-clause-places c =
    map-set_same (λ (row : Row). row.here) _ c.args.label _ c.index_mut-2.result.now (ap (λ (row : Row). row.here) c.index_mut-2.ensures.value) ∙ map-set (λ (row : Row). row.here) _ c.args.place _

pub returns-clause-labels : goal.returns-clause-labels
returns-clause-labels c =
    map-set (λ (row : Row). row.label) _ c.args.label _
    ∙ (λ i. set (map-set_same (λ (row : Row). row.label) c.args.self.now.rows.items c.args.place (record c.index_mut.result.now { here = c.args.number }) c.index_mut.result.now (ap (λ (row : Row). row.label) c.index_mut.ensures.value) i) c.args.label (c.lead_there.ensures i))

pub returns-clause-iris : goal.returns-clause-iris
returns-clause-iris c =
    map-set_same (λ (row : Row). row.iri) _ c.args.label _ c.index_mut-2.result.now (ap (λ (row : Row). row.iri) c.index_mut-2.ensures.value)
    ∙ map-set_same (λ (row : Row). row.iri) _ c.args.place _ c.index_mut.result.now (ap (λ (row : Row). row.iri) c.index_mut.ensures.value)

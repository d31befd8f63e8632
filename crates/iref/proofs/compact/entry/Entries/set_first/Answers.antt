use Rattle.std.proofs.{Common.{ap, ◌∙◌}, Math.ListN.{set}, Math.Seq.{map-set_same}, lemmas.List.{map-set}}
use Rattle.iref.specs.{PrefixTree.{leads_of}, declared.compact.entry.Key.TheVariants.{Iri}}
use Rattle.iref.specs.declared.compact.entry.Row.{Row}
use Rattle.iref.proofs.compact.entry.Entries.set_first.Goals as goal

pub returns-clause-all : goal.returns-clause-all
returns-clause-all c = map-set_same (λ (row : Row). row.entry) _ c.args.iri _ c.index_mut.result.now (ap (λ (row : Row). row.entry) c.index_mut.ensures.value)

pub returns-clause-places : goal.returns-clause-places
returns-clause-places c = map-set_same (λ (row : Row). row.here) _ c.args.iri _ c.index_mut.result.now (ap (λ (row : Row). row.here) c.index_mut.ensures.value)

pub returns-clause-labels : goal.returns-clause-labels
returns-clause-labels c = map-set_same (λ (row : Row). row.label) _ c.args.iri _ c.index_mut.result.now (ap (λ (row : Row). row.label) c.index_mut.ensures.value)

pub returns-clause-iris : goal.returns-clause-iris
returns-clause-iris c = map-set (λ (row : Row). row.iri) _ c.args.iri _ ∙ ap (set (leads_of Iri c.args.self.now) c.args.iri) c.lead_to-lead.ensures

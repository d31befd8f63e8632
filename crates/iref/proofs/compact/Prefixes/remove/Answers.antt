use Rattle.std.proofs.Common.{subst, sym}
use Rattle.iref.specs.{PrefixTable.{IsPrefixTable}, PrefixPlaces.{table_of}}
use Rattle.iref.proofs.PrefixLemmas.{table-removed}
use Rattle.iref.proofs.compact.Prefixes.remove.Goals as goal

pub invariant_of-self : goal.invariant_of-self
invariant_of-self c = (
  subst (λ es. IsPrefixTable (record { labels = c.self.inside.rule; entries = es })) (sym c.remove.ensures.left)
      (table-removed c.args.label.now (record { labels = c.self.inside.rule; entries = table_of c.self.inside.table.entries }) c.self.invariant.0),
  c.remove.ensures.table,
)

use Rattle.std.proofs.Common.{rules, subst, sym}
use Rattle.iref.specs.{PrefixTable.{IsPrefixTable}, PrefixPlaces.{table_of}}
use Rattle.iref.proofs.PrefixTableLemmas.{stays_table}
use Rattle.iref.proofs.compact.Prefixes.insert.Goals as goal

pub invariant_of-self-2 : goal.invariant_of-self-2
invariant_of-self-2 c = (
  subst (λ es. IsPrefixTable (record { labels = c.self.inside.rule; entries = es })) (sym c.in_ok-insert.ensures.ok)
      (stays_table c.args.label.now c.as_str.result.now (record { labels = c.self.inside.rule; entries = table_of c.self.inside.table.entries }) c.self.invariant.0 c.as_str.ensures.in_rule (search rules) (search rules)),
  c.insert.ensures.table,
)

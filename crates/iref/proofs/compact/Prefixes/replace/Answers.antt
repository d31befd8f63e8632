use Rattle.std.proofs.Common.{rules, ap, subst, sym, ◌∙◌, ◌∷◌, [], ◌++◌}
use Rattle.iref.specs.{PrefixTable.{PrefixTable, IsPrefixTable}, PrefixPlaces.{table_of}}
use Rattle.iref.proofs.{PrefixLemmas.{table-changed}, PrefixTableLemmas.{stays_replaced}}
use Rattle.iref.proofs.compact.Prefixes.replace.Goals as goal

pub invariant_of-self-in-Continue-branch-2 : goal.invariant_of-self-in-Continue-branch-2
invariant_of-self-in-Continue-branch-2 c = (
  stays_replaced c.args.label.now c.as_str-then-not-was.result.now c.as_str.result.now (record { labels = c.self.inside.rule; entries = table_of c.self.inside.table.entries }) (table_of c.insert.new.self.entries)
      c.self.invariant.0 c.as_str-then-not-was.ensures.in_rule (search rules) (search rules)
      (c.in_ok-insert.ensures.ok ∙ ap (λ (es : PrefixTable). es ++ record { label = c.args.label.now; iri = c.as_str-then-not-was.result.now } ∷ []) c.in_ok-was.ensures.ok),
  c.insert.ensures.table,
)

pub invariant_of-self-else-not-was : goal.invariant_of-self-else-not-was
invariant_of-self-else-not-was c = (
  subst (λ es. IsPrefixTable (record { labels = c.self.inside.rule; entries = es })) (sym c.in_ok-was.ensures.ok)
      (table-changed c.args.label.now c.as_str.result.now (record { labels = c.self.inside.rule; entries = table_of c.self.inside.table.entries }) c.self.invariant.0 c.as_str.ensures.in_rule),
  c.replace.ensures.table,
)

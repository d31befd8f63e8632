use Rattle.std.proofs.Common.{ap, map}
use Rattle.iref.specs.{PrefixPlaces.{entries_at}, declared.compact.entry.Row.{Row}}
use Rattle.iref.proofs.PrefixBookLemmas.{book_empty}
use Rattle.iref.proofs.compact.table.Table.new.Goals as goal

pub returns-clause-table : goal.returns-clause-table
returns-clause-table c = book_empty (record { rows = c.new-rows.result }) c.new-labels.result c.new-iris.result c.new-shared.result c.new-rows.ensures.items c.new-labels.ensures c.new-iris.ensures c.new-shared.ensures

pub returns-clause-none : goal.returns-clause-none
unfolding entries_at
returns-clause-none c = ap (λ rows. entries_at (map (λ (row : Row). row.entry) rows) (map (λ (row : Row). row.here) rows)) c.new-rows.ensures.items

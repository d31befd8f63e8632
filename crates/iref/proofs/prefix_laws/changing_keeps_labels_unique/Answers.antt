use Rattle.iref.proofs.PrefixLemmas.{table-nil, table-removed, table-replaced, table-changes, inserted_all-changes}
use Rattle.iref.proofs.prefix_laws.changing_keeps_labels_unique.Goals as goal

pub returns : goal.returns
returns c = record { removed = table-removed; replaced = table-replaced; all = λ labels changes new h k. table-changes changes _ new (table-nil labels) h k; inserts = inserted_all-changes }

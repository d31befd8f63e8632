use Rattle.iref.proofs.PrefixLemmas.{table-nil, table-new, table-all, get-entry}
use Rattle.iref.proofs.prefix_laws.inserting_keeps_labels_unique.Goals as goal

pub returns : goal.returns
returns c = record { empty = table-nil; new = table-new; all = λ labels entries new h k. table-all entries _ new (table-nil labels) h k; found = get-entry }

use Rattle.std.proofs.Common.{◌≡◌, drop, map}
use Rattle.iref_tool.specs.{EntryWords.{turtle_table, with_entry}, Replies.{read_all}}
use Rattle.iref_tool.proofs.prefixes.table_of.Given as goal

-- the entries before the index are in the table
abbrev pub invariant-loop-entry : goal.invariant-loop-entry
invariant-loop-entry l = read_all with_entry turtle_table (map (λ word. word.now) l.entries) ≡ read_all with_entry l.table (map (λ word. word.now) (drop l.entry-index l.entries))

use Rattle.std.proofs.Common.{rules}
use Rattle.iref_tool.specs.EntryWords.{turtle_table, with_entry}
use Rattle.iref_tool.proofs.{ReplyLemmas.{stops}, WordListLemmas.{all_read, one_more, stopped}}
use Rattle.iref_tool.proofs.prefixes.table_of.Goals as goal

pub loop-entry-preserved : goal.loop-entry-preserved
loop-entry-preserved c = one_more with_entry turtle_table _ c.args.entries.now c.loop-entry.entry-index c.loop-entry.invariant _ (search rules) _ c.in_ok-insert.ensures

pub returns-in_err-insert : goal.returns-in_err-insert
returns-in_err-insert c =
    stops _ _ _ _ _ (search rules) (stopped with_entry turtle_table _ c.args.entries.now c.loop-entry.entry-index c.loop-entry.invariant _ (search rules)) c.in_err-insert.ensures

pub returns : goal.returns
returns c = all_read with_entry turtle_table _ c.args.entries.now c.loop-entry.entry-index c.loop-entry.invariant (search rules)

-- The prefix tables of words `LABEL=IRI`, and what is made short and expanded by them.
use Rattle.std.specs.Prelude.{List, [], Option, None, Some, Result, Ok, Err, codes}
use Rattle.iref.specs.{PrefixTable.{PrefixEntry, PrefixesValue, CompactValue, InsertRefusal, ExpandRefusal}, Rules.{Text}}
use Rattle.iref.specs.PrefixTable.{BadLabel, Taken, NoColon, UnknownLabel, NotAnIri, compact_text, compacted, expanded, inserted}
use Rattle.iref.specs.declared.compact.label.Labels.{Labels}
use Rattle.iref.specs.declared.compact.label.Labels.TheVariants.{Turtle}
use Rattle.iref_batch.specs.Lines.{Answered, read_entry}
use Rattle.iref_tool.specs.Replies.{Refuses, Reply, WrongWord, and_then, if_iri, read_all}
use Rattle.iref_tool.specs.declared.refusal.Reason.TheVariants as reason

-- the argument whose words are entries
abbrev pub entry_argument : Text
entry_argument = codes "LABEL=IRI"

-- the table that has taken the entry, or why one with these labels has not
abbrev pub taken : Labels → Text → Result PrefixesValue InsertRefusal → Result PrefixesValue WrongWord
taken labels word (Ok table) = Ok table
taken labels word (Err BadLabel) = Err (Refuses entry_argument word (reason.Label labels))
taken labels word (Err Taken) = Err (Refuses entry_argument word reason.Taken)

abbrev pub with_entry_read : PrefixesValue → Text → Option PrefixEntry → Result PrefixesValue WrongWord
with_entry_read table word None = Err (Refuses entry_argument word reason.NoEntry)
with_entry_read table word (Some e) = if_iri entry_argument word e.iri (taken table.labels word (inserted e.label e.iri table))

-- the table with the entry of a word
abbrev pub with_entry : PrefixesValue → Text → Result PrefixesValue WrongWord
with_entry table word = with_entry_read table word (read_entry word)

-- no entry, and the labels of Turtle
abbrev pub turtle_table : PrefixesValue
turtle_table = record { labels = Turtle; entries = [] }

-- the table of the entries of words, or the first word that is wrong
abbrev pub table_of_words : List Text → Result PrefixesValue WrongWord
table_of_words words = read_all with_entry turtle_table words

abbrev pub or_no_prefix : Text → Option CompactValue → Reply
or_no_prefix iri None = Err (Refuses (codes "IRI") iri reason.NoPrefix)
or_no_prefix iri (Some short) = Ok (Answered (compact_text short))

-- the IRI made short by the entries of words
abbrev pub compacted_by_words : Text → List Text → Reply
compacted_by_words iri words = and_then (λ table. or_no_prefix iri (compacted iri table.entries)) (table_of_words words)

abbrev pub or_not_expanded : Text → Result Text ExpandRefusal → Reply
or_not_expanded text (Ok iri) = Ok (Answered iri)
or_not_expanded text (Err NoColon) = Err (Refuses (codes "TEXT") text reason.NoColon)
or_not_expanded text (Err UnknownLabel) = Err (Refuses (codes "TEXT") text reason.UnknownLabel)
or_not_expanded text (Err NotAnIri) = Err (Refuses (codes "TEXT") text reason.NotAnIri)

-- the IRI that the text stands for by the entries of words
abbrev pub expanded_by_words : Text → List Text → Reply
expanded_by_words text words = and_then (λ table. or_not_expanded text (expanded text table.entries)) (table_of_words words)

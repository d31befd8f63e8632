-- What the fields of a line are read as: entries of a prefix table.
use Rattle.std.specs.{Prelude.{◌≡◌, Bool, true, false, ◌&&◌, List, map, Option, Some, None, Ok}, Result.{is_ok}}
use Rattle.iref.specs.{Characters.{iri_chars}, Reference.{is_uri}, Rules.{Text}, IpAddresses.{all_some}}
use Rattle.iref.specs.PrefixTable.{PrefixEntry, PrefixesValue, inserted}
use Rattle.iref_batch.specs.{Lines.{read_entry}, declared.edit_fields.FieldError.{FieldError}}
use Rattle.iref_batch.specs.declared.edit_fields.FieldError.TheVariants.{Command, Invalid, Memory}

-- the entries that the fields name
abbrev pub entries_read : List Text → Option (List PrefixEntry)
entries_read fields = all_some (map read_entry fields)

-- the entry has an IRI, and the table takes its label
abbrev pub can_insert : PrefixesValue → PrefixEntry → Bool
can_insert table e = is_uri iri_chars e.iri && is_ok (inserted e.label e.iri table)

-- the table has taken the entry that was read
abbrev pub HasTaken : Option PrefixEntry → PrefixesValue → PrefixesValue → Type 0
HasTaken read old new =
    (e : PrefixEntry) × (read ≡ Some e) × (is_uri iri_chars e.iri ≡ true) × (inserted e.label e.iri old ≡ Ok new)

-- why not: nothing is to be read, or the table cannot take it, or memory was refused
abbrev pub TakesNot : Option PrefixEntry → PrefixesValue → FieldError → Type 0
TakesNot read old Command = read ≡ None
TakesNot read old Invalid = (e : PrefixEntry) × (read ≡ Some e) × (can_insert old e ≡ false)
TakesNot read old Memory = Unit {0}

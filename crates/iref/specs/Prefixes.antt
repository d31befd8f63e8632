-- What the calls of prefix tables answer.
use Rattle.std.specs.Prelude.{◌≡◌, ◌≢◌, Result, Err, IsOk}
use Rattle.iref_grammar.specs.Rules.{Text}
use Rattle.iref.specs.PrefixTable as table
use Rattle.iref.specs.PrefixTable.{PrefixesValue, CompactValue, InsertRefusal, ExpandRefusal}
use Rattle.iref.specs.{declared.compact.Compact.{Compact}, declared.compact.PrefixFault.{PrefixFault}}
use Rattle.iref.specs.declared.compact.PrefixFault.TheVariants.{BadLabel, Taken}
use Rattle.iref.specs.declared.compact.ExpandFault.{ExpandFault}
use Rattle.iref.specs.declared.compact.ExpandFault.TheVariants.{NoColon, UnknownLabel, NotAnIri}
use Rattle.iref.specs.declared.compact.PrefixFault.TheVariants as prefix_fault
use Rattle.iref.specs.declared.compact.ExpandFault.TheVariants as expand_fault

abbrev pub compact_value : Compact → CompactValue
compact_value c = record { label = c.label.now; rest = c.rest.now }

-- an insert is refused for this reason, or is out of memory
abbrev pub RefusesInsert : Result PrefixesValue InsertRefusal → PrefixFault → Type 0
RefusesInsert answer BadLabel = answer ≡ Err table.BadLabel
RefusesInsert answer Taken = answer ≡ Err table.Taken
RefusesInsert answer prefix_fault.Memory = IsOk answer

-- a text is not expanded for this reason; memory is wanted where it has a known label
abbrev pub RefusesExpand : Result Text ExpandRefusal → ExpandFault → Type 0
RefusesExpand answer NoColon = answer ≡ Err table.NoColon
RefusesExpand answer UnknownLabel = answer ≡ Err table.UnknownLabel
RefusesExpand answer NotAnIri = answer ≡ Err table.NotAnIri
RefusesExpand answer expand_fault.Memory = (answer ≢ Err table.NoColon) × (answer ≢ Err table.UnknownLabel)

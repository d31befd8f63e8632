-- What the fields of a line are read as: edits, with their values.
use Rattle.std.specs.Prelude.{◌≡◌, Bool, true, false, List, map, drop, Option, Some, None, Result, Ok, Err, bytes_eq, option_and_then}
use Rattle.std.specs.List.{find}
use Rattle.iref.specs.{Rules.{Text}, IpAddresses.{all_some}, Edits.{EditStep}}
use Rattle.iref_batch.specs.Lines.{BadCommand, InvalidText, answer_text, edit_names, read_edit}
use Rattle.iref_batch.specs.declared.edit_fields.FieldError.{FieldError}
use Rattle.iref_batch.specs.declared.edit_fields.FieldError.TheVariants.{Command, Invalid, Memory}

-- a value that shows what there is to read, which is valid; or why not: nothing is to be read, or it is not valid, or memory
-- was refused
abbrev pub IsRead : {V A : Type 0} → (V → A) → (A → Bool) → Option A → Result V FieldError → Type 0
IsRead shown is_valid read (Ok v) = (read ≡ Some (shown v)) × (is_valid (shown v) ≡ true)
IsRead shown is_valid read (Err Command) = read ≡ None
IsRead {A = A} shown is_valid read (Err Invalid) = (a : A) × (read ≡ Some a) × (is_valid a ≡ false)
IsRead shown is_valid read (Err Memory) = Unit {0}

-- what is written where fields were not read, unless memory was refused
abbrev pub IsRefusal : FieldError → Text → Type 0
IsRefusal Command text = text ≡ answer_text BadCommand
IsRefusal Invalid text = text ≡ answer_text InvalidText
IsRefusal Memory text = Unit {0}

abbrev pub EditNames : Type 0
EditNames = List (Text × (Option Text → Option EditStep))

-- the edit of this name with this value
abbrev pub edit_named : EditNames → Text → Option Text → Option EditStep
edit_named names name value = option_and_then (λ e. e.1 value) (find (λ e. bytes_eq e.0 name) names)

-- the last of the names: the edits of a path in place
abbrev pub path_edit_names : EditNames
path_edit_names = drop 10 edit_names

-- the edits that the fields name
abbrev pub edits_read : List Text → Option (List EditStep)
edits_read fields = all_some (map read_edit fields)

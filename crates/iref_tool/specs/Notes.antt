-- What is said of a wrong line.
use Rattle.std.specs.{Prelude.{◌≡◌, ◌⊎◌, ℕ, ◌+◌, Bool, true, false, [], Option, Some, IfSome, codes}, Fmt.{decimal, ◌++?◌, InlineText.{inline_text}}}
use Rattle.iref.specs.{BytePlaces.{fault_value}, Faults.{FaultValue}, Printed.{component_name, found_text}, Rules.{Text}}
use Rattle.iref_batch.specs.{Columns.{chars_in_first}, Runs.{with_newline}}
use Rattle.iref_fault.specs.declared.component.Cause.{Cause}
use Rattle.iref_fault.specs.declared.component.Cause.TheVariants as cause
use Rattle.iref_tool.specs.{Shown.{shown}, declared.place.Found.{Found}}
use Rattle.iref_tool.specs.declared.jobs.LineFault.{LineFault}
use Rattle.iref_tool.specs.declared.jobs.LineFault.TheVariants.{Invalid, NoReference, Memory}

abbrev pub found_of : Found → Text
found_of found = inline_text found.0

-- what stands at the fault is written so; how a character past ASCII is, std does not say
abbrev pub IsFound : FaultValue → Text → Type 0
IsFound f found = IfSome (found_text f.found) (λ text. found ≡ text)

abbrev pub cause_text : Cause → Text → Option Text
cause_text cause.NoScheme found = Some (codes "no scheme")
cause_text cause.NotUtf8 found = Some (codes "not UTF-8")
cause_text (cause.Invalid component) found = Some (codes "invalid ") ++? Some (component_name component) ++? Some (codes ": ") ++? Some found

-- why a text is refused, without the place, such as `invalid host: ' '`
abbrev pub why_text : FaultValue → Text → Option Text
why_text f found = cause_text f.cause found

-- what is wrong with the line, behind its number: the column, counted in characters from 1, and why
abbrev pub fault_note : Text → LineFault → Text → Option Text
fault_note line (Invalid fault) found =
    Some (decimal (1 + chars_in_first (fault_value fault).at line)) ++? Some (codes ": ") ++? why_text (fault_value fault) found
fault_note line NoReference found = Some (codes " no reference resolves to this text")
fault_note line Memory found = Some (codes " out of memory")

-- the shown name of the file, the number of the line and what is wrong with it, such as `urls.txt:3:9: invalid host: ' '`
abbrev pub note_text : Text → ℕ → Text → LineFault → Text → Option Text
note_text file number line fault found =
    Some (shown file) ++? Some (codes ":") ++? Some (decimal number) ++? Some (codes ":") ++? fault_note line fault found

abbrev pub IsFoundBy : LineFault → Text → Type 0
IsFoundBy (Invalid fault) found = IsFound (fault_value fault) found
IsFoundBy _ found = Unit {0}

-- what is said of a fault: it, or that memory was refused
abbrev pub MaySay : LineFault → LineFault → Type 0
MaySay fault said = (said ≡ fault) ⊎ (said ≡ Memory)

-- the text is the note of the line; of a character past ASCII some text is the quotation
abbrev pub IsNote : Text → ℕ → Text → LineFault → Text → Type 0
IsNote file number line fault text = (found : Text) × IsFoundBy fault found × (note_text file number line fault found ≡ Some text)

-- this stands among the answers for a wrong line: its note, where these go there, or nothing
abbrev pub StandsForWrong : Bool → Text → ℕ → Text → LineFault → Text → Type 0
StandsForWrong false file number line fault text = text ≡ []
StandsForWrong true file number line fault text = (note : Text) × IsNote file number line fault note × (text ≡ with_newline note)

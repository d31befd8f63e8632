-- The jobs that commands name.
use Rattle.std.specs.Prelude.{◌≡◌, ◌⊎◌, ◌||◌, ◌&&◌, Bool, false, [], Option, None, Some, Result, Ok, Err, bytes_eq, codes, is_some}
use Rattle.clap.specs.{declared.parser.matches.Found.{Found}, Words.{first_value}}
use Rattle.iref.specs.{Characters.{iri_chars}, Faults.{fault_of_reference, fault_of_uri}, Reference.{ReferenceValue}, Rules.{Text}}
use Rattle.iref_reference.specs.References.{reference_text}
use Rattle.iref_tool.specs.{Jobs.{gathered, has_seen}, Words.{RefusesText, is_given, word}}
use Rattle.iref_tool.specs.declared.{refusal.Refusal.{Refusal}, refusal.Refusal.TheVariants.{Memory}, work.Work.{Work}}
use Rattle.iref_tool.specs.declared.work.Work.TheVariants.{Check, Canonical, Key, Resolve, Relativize, Sort, Unique, Below, Lines}

abbrev pub keeps : Found → Bool
keeps found = is_given found (codes "keep")

-- this is the job of the command, before the first line
abbrev pub IsWork : Text → Found → Work → Type 0
IsWork name found (Check job) = (name ≡ codes "check") × (job.uri ≡ is_given found (codes "uri")) × (job.absolute ≡ is_given found (codes "absolute"))
IsWork name found (Canonical job) = (name ≡ codes "canonical") × (job.keep.0 ≡ keeps found)
IsWork name found (Key job) = (name ≡ codes "key") × (job.0.0 ≡ keeps found)
IsWork name found (Resolve job) = (name ≡ codes "resolve") × (first_value found (codes "base") ≡ Some (reference_text job.0)) × (job.1.0 ≡ keeps found)
IsWork name found (Relativize job) = (name ≡ codes "relativize") × (first_value found (codes "base") ≡ Some (reference_text job.0)) × (job.1.0 ≡ keeps found)
IsWork name found (Sort job) = (name ≡ codes "sort") × (gathered job ≡ [])
IsWork name found (Unique job) = (name ≡ codes "unique") × ((r : ReferenceValue) → has_seen job r ≡ false)
IsWork name found (Below job) = (name ≡ codes "below") × (reference_text job.above ≡ word found (codes "PREFIX"))
IsWork name found Lines = name ≡ codes "lines"

-- the word is outside its rule, or memory was refused
abbrev pub RefusesBase : Text → Refusal → Type 0
RefusesBase base refusal = RefusesText (codes "BASE") (codes "IRI") base base (fault_of_uri iri_chars base) refusal

abbrev pub RefusesPrefix : Text → Refusal → Type 0
RefusesPrefix prefix refusal = RefusesText (codes "PREFIX") (codes "IRI reference") prefix prefix (fault_of_reference iri_chars prefix) refusal ⊎ (refusal ≡ Memory)

-- the command works on lines against a base
abbrev pub takes_base : Text → Bool
takes_base name = bytes_eq name (codes "resolve") || bytes_eq name (codes "relativize")

-- the command works on lines without one
abbrev pub takes_lines : Text → Bool
takes_lines name =
    bytes_eq name (codes "check") || bytes_eq name (codes "canonical") || bytes_eq name (codes "key") || bytes_eq name (codes "sort") || bytes_eq name (codes "unique")
    || bytes_eq name (codes "below") || bytes_eq name (codes "lines")

-- the call has returned the job of a command with this base; or that the base is wrong; or none
abbrev pub FindsWorkAgainst : Text → Text → Bool → Result (Option Work) Refusal → Type 0
FindsWorkAgainst name base keep (Ok (Some (Resolve job))) = (name ≡ codes "resolve") × (base ≡ reference_text job.0) × (job.1.0 ≡ keep)
FindsWorkAgainst name base keep (Ok (Some (Relativize job))) = (name ≡ codes "relativize") × (base ≡ reference_text job.0) × (job.1.0 ≡ keep)
FindsWorkAgainst name base keep (Ok (Some work)) = ⊥
FindsWorkAgainst name base keep (Ok None) = takes_base name ≡ false
FindsWorkAgainst name base keep (Err refusal) = RefusesBase base refusal

-- the call has returned the job of a command; or what is wrong; or none, where the command does not work on lines
abbrev pub FindsWork : Text → Found → Result (Option Work) Refusal → Type 0
FindsWork name found (Ok (Some work)) = IsWork name found work
FindsWork name found (Ok None) = (takes_lines name || is_some (first_value found (codes "base")) && takes_base name) ≡ false
FindsWork name found (Err refusal) =
    ((base : Text) × (first_value found (codes "base") ≡ Some base) × RefusesBase base refusal) ⊎ RefusesPrefix (word found (codes "PREFIX")) refusal

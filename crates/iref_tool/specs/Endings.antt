-- How the command ends after it has done a job with each line of files.
use Rattle.std.specs.Prelude.{◌≡◌, ◌≢◌, ◌⊎◌, List, Option, Some, None, max}
use Rattle.std.specs.{Borrow.{Bor}, Io.KnownBytes.{Appends}, IoError.{error_kind}}
use Rattle.std.specs.declared.io.{Error.{Error}, ErrorKind.TheVariants.{BrokenPipe}}
use Rattle.iref.specs.Rules.{Text}
use Rattle.iref_batch.specs.{Runs.{with_newlines}, StdStreams.{failure_of, inner_of}, declared.streams.FromStd.{FromStd}}
use Rattle.iref_batch.specs.{Statuses.{number_of}, declared.status.Status.{Status}}
use Rattle.iref_tool.specs.{JobRuns.{DoesAll, TurnsWrong}, Jobs.{Gathers, Outcome, Sorts, sort_outcome}}
use Rattle.iref_tool.specs.declared.{jobs.Sort.{Sort}, texts.Texts.{Texts}}

-- the status is the one met; or the worse of it and `Wrong`, where the output has failed and somebody reads it
abbrev pub EndsWith : Option Error → Status → Status → Type 0
EndsWith None met status = status ≡ met
EndsWith (Some error) met status = (error_kind error ≡ BrokenPipe → status ≡ met) × (error_kind error ≢ BrokenPipe → TurnsWrong met status)

-- the job was done with the lines of all files, unless the output has failed; the worst status of files and lines is met
pub record DoesToEnd {J W E : Type 0} (outcome : J → Text → Outcome) (goes_on : J → Option Text → J → Type 0) (contents : W → Option Text) (files : List (Bor Text)) (old new : Texts J W E) (met : Status) : Type 0 where
  pub status : Status
  pub does : failure_of new.out ≡ None → DoesAll outcome goes_on contents files status old new
  pub worst : number_of met ≡ max (number_of status) (number_of new.status)

-- the same, and this is the status at the end
abbrev pub EndsAll : {J W E : Type 0} → (J → Text → Outcome) → (J → Option Text → J → Type 0) → (W → Option Text) → List (Bor Text) → Texts J W E → Texts J W E → Status → Type 0
EndsAll outcome goes_on contents files old new status =
    (met : Status) × DoesToEnd outcome goes_on contents files old new met × EndsWith (failure_of new.out) met status

-- the lines gathered were sorted and written, and this is the status at the end
pub record WritesSorted {W : Type 0} (contents : W → Option Text) (sort : Sort) (out_old out_new : FromStd W) (met status : Status) : Type 0 where
  pub lines : List Text
  pub sorts : Sorts sort lines
  pub written : failure_of out_new ≡ None → Appends (contents (inner_of out_old)) (contents (inner_of out_new)) (with_newlines lines)
  pub ends : EndsWith (failure_of out_new) met status

-- the lines of all files were gathered, and then sorted and written, unless memory was refused
abbrev pub SortsAll : {W E V : Type 0} → (W → Option Text) → (V → Option Text) → List (Bor Text) → Texts Sort W E → Texts Sort W E → FromStd V → FromStd V → Status → Type 0
SortsAll contents out_contents files old new out_old out_new status =
    (met : Status) × DoesToEnd sort_outcome Gathers contents files old new met
    × (WritesSorted out_contents new.job out_old out_new met status ⊎ TurnsWrong met status)

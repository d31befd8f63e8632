-- What a job has written for the lines that it was given.
use Rattle.std.specs.Prelude.{◌≡◌, ◌⊎◌, ◌+◌, ◌-◌, ◌^◌, ℕ, Bool, List, [], ◌∷◌, Option, Some, None, fold, map, max, min}
use Rattle.std.specs.{Borrow.{Bor}, List.{concat}}
use Rattle.iref.specs.Rules.{Text}
use Rattle.iref_batch.specs.{Gathering.{Gains}, StdStreams.{inner_of}}
use Rattle.iref_batch.specs.{Statuses.{number_of}, declared.status.{Status.{Status}, Status.TheVariants.{Wrong}}}
use Rattle.iref_tool.specs.{Jobs.{IsFaultOf, Outcome, Written}, Notes.{MaySay, StandsForWrong}, Streams.{GivesFile}, declared.texts.Texts.{Texts}}
use Rattle.iref_tool.specs.declared.jobs.{LineFault.{LineFault}, LineFault.TheVariants.{Memory}}

-- the number of the next line, up to `u64::MAX`
abbrev pub next_number : ℕ → ℕ
next_number number = min (number + 1) (2 ^ 64 - 1)

abbrev pub number_after : ℕ → List (Option Text) → ℕ
number_after number [] = number
number_after number (line ∷ lines) = number_after (next_number number) lines

-- something was wrong: the status after it is the worse of that before and `Wrong`
abbrev pub TurnsWrong : Status → Status → Type 0
TurnsWrong before after = number_of after ≡ max (number_of before) (number_of Wrong)

-- This stands among the answers for the line: what the job makes of it, and the status stays; or what stands there for a wrong
-- line. The job does not see a line for which memory was refused.
abbrev pub DoesLine : {J : Type 0} → (J → Text → Outcome) → (J → Option Text → J → Type 0) → (Text → LineFault → Text → Type 0) → J → Status → Option Text → Text → J → Status → Type 0
DoesLine outcome goes_on for_wrong old before None text new after = (new ≡ old) × for_wrong [] Memory text × TurnsWrong before after
DoesLine outcome goes_on for_wrong old before (Some line) text new after =
    ((outcome old line ≡ Written text) × goes_on old (Some line) new × (after ≡ before))
    ⊎ ((fault : LineFault) × IsFaultOf (outcome old line) fault × for_wrong line fault text × goes_on old None new × TurnsWrong before after)

-- the same of each of the lines, one after the other, of which the first has the next number
abbrev pub DoesLines : {J : Type 0} → (J → Text → Outcome) → (J → Option Text → J → Type 0) → (ℕ → Text → LineFault → Text → Type 0) → ℕ → J → Status → List (Option Text) → List Text → J → Status → Type 0
DoesLines outcome goes_on for_wrong number old before [] [] new after = (new ≡ old) × (after ≡ before)
DoesLines outcome goes_on for_wrong number old before [] (text ∷ texts) new after = ⊥
DoesLines outcome goes_on for_wrong number old before (line ∷ lines) [] new after = ⊥
DoesLines outcome goes_on for_wrong number old before (line ∷ lines) (text ∷ texts) new after =
    (mid : _) × (between : Status) × DoesLine outcome goes_on (for_wrong (next_number number)) old before line text mid between
    × DoesLines outcome goes_on for_wrong (next_number number) mid between lines texts new after

-- this stands among the answers for the wrong line, and was gathered or written
abbrev pub SaysWrong : Bool → Text → ℕ → Text → LineFault → Option Text → Option Text → Text → Text → Type 0
SaysWrong reports file number line fault old new gathered gathered_then =
    (said : LineFault) × MaySay fault said × (text : Text) × StandsForWrong reports file number line said text × Gains text old new gathered gathered_then

-- of the same file as many lines came in, and what is wrong goes to the same place
abbrev pub StaysAt : {J W E : Type 0} → Texts J W E → Texts J W E → Type 0
StaysAt old new = (new.file ≡ old.file) × (new.number ≡ old.number) × (new.reports ≡ old.reports)

-- the job was done with lines of a file: what stands among the answers for each was gathered or written
pub record DoesJob {J W E : Type 0} (outcome : J → Text → Outcome) (goes_on : J → Option Text → J → Type 0) (contents : W → Option Text) (old : Texts J W E) (lines : List (Option Text)) (new : Texts J W E) : Type 0 where
  pub texts : List Text
  pub does : DoesLines outcome goes_on (StandsForWrong old.reports old.file.now) old.number old.job old.status lines texts new.job new.status
  pub gains : Gains (concat texts) (contents (inner_of old.out)) (contents (inner_of new.out)) old.answers.items new.answers.items
  pub file : new.file ≡ old.file
  pub numbers : new.number ≡ number_after old.number lines
  pub reports : new.reports ≡ old.reports

-- the files were begun one after the other, and lines of each were given
abbrev pub DoesFiles : {J W E : Type 0} → (Texts J W E → List (Option Text) → Texts J W E → Type 0) → List (Bor Text) → List Status → Texts J W E → Texts J W E → Type 0
DoesFiles given [] [] old new = new ≡ old
DoesFiles given [] (status ∷ statuses) old new = ⊥
DoesFiles given (file ∷ files) [] old new = ⊥
DoesFiles given (file ∷ files) (status ∷ statuses) old new =
    (mid : _) × GivesFile given status (record old { file = file; number = 0 }) mid × DoesFiles given files statuses mid new

-- the job was done with the lines of all these files, and this is the worst of their statuses
abbrev pub DoesAll : {J W E : Type 0} → (J → Text → Outcome) → (J → Option Text → J → Type 0) → (W → Option Text) → List (Bor Text) → Status → Texts J W E → Texts J W E → Type 0
DoesAll outcome goes_on contents files status old new =
    (statuses : List Status) × DoesFiles (λ s lines t. DoesJob outcome goes_on contents s lines t) files statuses old new
    × (number_of status ≡ fold max 0 (map number_of statuses))

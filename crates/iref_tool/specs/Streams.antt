-- Lines of an input that are given to what takes lines.
use Rattle.std.specs.Prelude.{◌≡◌, List, [], ◌∷◌, ◌++◌, Option, Some, None, Result, Ok, Err}
use Rattle.std.specs.{Io.KnownBytes.{Consumes, IsAtEnd}, List.{AllZip}}
use Rattle.iref.specs.Rules.{Text}
use Rattle.iref_batch.specs.{Gathering.{Holds, SeenAs}, Lines.{lines_of}, Runs.{ended_lines}, declared.lines.Begun.{Begun}}
use Rattle.iref_batch.specs.declared.status.{Status.{Status}, Status.TheVariants.{Well, Wrong, Misused}}
use Rattle.iref_tool.specs.declared.input.{Failure.{Failure}, Failure.TheVariants.{Read, Write}}

-- the line was given, or memory was refused for it
abbrev pub IsGiven : Text → Option Text → Type 0
IsGiven line None = Unit {0}
IsGiven line (Some given) = given ≡ line

-- one line was given: what was begun, and these last bytes of it
abbrev pub GivesLine : {T : Type 0} → (T → List (Option Text) → T → Type 0) → Begun → Text → T → T → Type 0
GivesLine given begun tail old new =
    (line : Text) → Holds begun line → (last : Option Text) × IsGiven (line ++ tail) last × given old (last ∷ []) new

-- the lines of the text read were given, and no byte of the line begun
pub record InInput {T : Type 0} (given : T → List (Option Text) → T → Type 0) (seen : Text) (begun : Begun) (first now : T) : Type 0 where
  pub ended : List Text
  pub lines : List (Option Text)
  pub seen_as : SeenAs seen ended begun
  pub are_given : AllZip IsGiven ended lines
  pub taken : given first lines now

-- where a beginning of the input was read, more of it is read now
abbrev pub ReadsMore : {T : Type 0} → (T → List (Option Text) → T → Type 0) → Text → Begun → Begun → T → T → Type 0
ReadsMore given more begun begun_then old new =
    (seen : Text) (first : _) → InInput given seen begun first old → InInput given (seen ++ more) begun_then first new

-- each of these lines was given, in order
pub record GivesLines {T : Type 0} (given : T → List (Option Text) → T → Type 0) (read : List Text) (old new : T) : Type 0 where
  pub lines : List (Option Text)
  pub are_given : AllZip IsGiven read lines
  pub taken : given old lines new

-- some text was read to its end, which is all that was left where that is known, and all of its lines were given
pub record GivesAll {T : Type 0} (given : T → List (Option Text) → T → Type 0) (before left : Option Text) (old new : T) : Type 0 where
  pub text : Text
  pub read : Consumes before left text
  pub at_end : IsAtEnd left
  pub lines : GivesLines given (lines_of text) old new

-- some text was read, which stood before what is left where that is known, and the lines that end there were given
pub record GivesBeginning {T : Type 0} (given : T → List (Option Text) → T → Type 0) (before left : Option Text) (old new : T) : Type 0 where
  pub text : Text
  pub read : Consumes before left text
  pub lines : GivesLines given (ended_lines text) old new

-- the fact holds where a read has failed, or `u64::MAX` reads have met no end
abbrev pub OnReadError : Result (Unit {0}) Failure → Type 0 → Type 0
OnReadError (Ok _) P = Unit {0}
OnReadError (Err Write) P = Unit {0}
OnReadError (Err (Read _)) P = P

-- the fact holds where a write has failed
abbrev pub OnWriteError : Result (Unit {0}) Failure → Type 0 → Type 0
OnWriteError (Ok _) P = Unit {0}
OnWriteError (Err Write) P = P
OnWriteError (Err (Read _)) P = Unit {0}

-- of a file some text was read, and all of its lines were given; where it could not be read to its end, those that end before
abbrev pub GivesFile : {T : Type 0} → (T → List (Option Text) → T → Type 0) → Status → T → T → Type 0
GivesFile given Well old new = (text : Text) × GivesLines given (lines_of text) old new
GivesFile given Wrong old new = ⊥
GivesFile given Misused old new = (text : Text) × GivesLines given (ended_lines text) old new

-- the status of a file, by how reading it ended; none where a write has failed
abbrev pub file_status : Result (Unit {0}) Failure → Option Status
file_status (Ok _) = Some Well
file_status (Err Write) = None
file_status (Err (Read _)) = Some Misused

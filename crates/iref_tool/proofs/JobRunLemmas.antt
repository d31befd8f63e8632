-- What a job has written for a line, and for files.
use Rattle.std.proofs.Common.{◌≡◌, ◌+◌, ◌<◌, ◌≤◌, ℕ, Bool, true, false, List, [], ◌∷◌, ◌++◌, Option, Some, None, IfSome, OnOk, Result, ap, arith, fold, length, map, max, refl, slice_index_or, subst, sym, take, ◌∙◌, inl, inr, append-nil, Ok, Err, OnErr, is_some, is_err, codes}
use Rattle.std.proofs.{lemmas.Grind.{common_steps}, lemmas.List.{map-append}, lemmas.List.Sums.{fold-append}}
use Rattle.std.proofs.{KnownBytes.{Appends-kept, Appends-trans}, lemmas.Grind.{flat_map-append}}
use Rattle.std.specs.{Borrow.{Bor}, Fmt.{decimal, ◌++?◌, with_newline as with_end}, Io.KnownBytes.{Appends, Keeps}, List.{concat}}
use Rattle.iref.specs.{BytePlaces.{fault_value}, Rules.{Text}}
use Rattle.iref_fault.specs.declared.component.Cause.{Cause}
use Rattle.iref_fault.specs.declared.component.Cause.TheVariants as cause
use Rattle.iref_batch.specs.{Gathering.{Gains, Writes}, Runs.{with_newline, with_newlines}, Statuses.{number_of}, StdStreams.{inner_of}}
use Rattle.iref_batch.specs.declared.status.Status.{Status}
use Rattle.std.specs.declared.io.Error.{Error}
use Rattle.iref_batch.proofs.Writing.{gains_gathered, gains_written, writes_from_appends, writes_more}
use Rattle.iref_tool.specs.JobRuns.{DoesFiles, DoesJob, SaysWrong, StaysAt, TurnsWrong, next_number}
use Rattle.iref_tool.specs.{Jobs.{IsFaultOf, Outcome, Written}, Notes.{IsFoundBy, MaySay, StandsForWrong, cause_text, fault_note, note_text}, Shown.{shown}, Streams.{GivesFile}}
use Rattle.iref_tool.specs.declared.{jobs.LineFault.{LineFault}, jobs.LineFault.TheVariants.{Invalid, NoReference, Memory}, texts.Texts.{Texts}}

-- the text of a note is known
abbrev IsKnown : Option Text → Type 0
IsKnown text = (known : Text) × (text ≡ Some known)

known_then : (front : Text) {text : Option Text} → IsKnown text → IsKnown (Some front ++? text)
known_then front known = (front ++ known.0, rw known.1 refl)

why_is_known : (c : Cause) (found : Text) → IsKnown (cause_text c found)
why_is_known cause.NoScheme found = (_, refl)
why_is_known cause.NotUtf8 found = (_, refl)
why_is_known (cause.Invalid component) found = (_, refl)

fault_is_known : (line : Text) (fault : LineFault) (found : Text) → IsKnown (fault_note line fault found)
fault_is_known line (Invalid fault) found = known_then _ (known_then (codes ": ") (why_is_known (fault_value fault).cause found))
fault_is_known line NoReference found = (_, refl)
fault_is_known line Memory found = (_, refl)

note_is_known : (file : Text) (number : ℕ) (line : Text) (fault : LineFault) (found : Text) → IsKnown (note_text file number line fault found)
note_is_known file number line fault found =
    known_then (shown file) (known_then (codes ":") (known_then (decimal number) (known_then (codes ":") (fault_is_known line fault found))))

-- what stands among the answers for a wrong line was gathered or written
module _ (reports : Bool) (file : Text) (number : ℕ) (line : Text) (fault said : LineFault) (found : Text) (may : MaySay fault said) (by : IsFoundBy said found) (before after : Option Text) (gathered gathered_then : Text) where
  abbrev pub IsSaid : Type 0
  IsSaid = SaysWrong reports file number line fault before after gathered gathered_then

  says : (reported : Bool) → reports ≡ reported → (text : Text) → StandsForWrong reported file number line said text → Gains text before after gathered gathered_then → IsSaid
  says reported is text stands gains = (said, may, text, rw is stands, gains)

  -- the note goes elsewhere
  pub not_said_kept : reports ≡ false → gathered_then ≡ gathered → before ≡ after → IsSaid
  not_said_kept elsewhere same kept = says false elsewhere [] refl (rw kept (gains_gathered [] after gathered gathered_then (same ∙ sym (append-nil gathered))))

  -- and what was gathered is written
  pub not_said_written : reports ≡ false → gathered_then ≡ [] → Writes gathered before after → IsSaid
  not_said_written elsewhere none written = says false elsewhere [] refl (gains_written [] before after gathered gathered_then none (rw append-nil written))

  note : IsKnown (note_text file number line said found)
  note = note_is_known file number line said found

  says_note : reports ≡ true → Gains (with_newline note.0) before after gathered gathered_then → IsSaid
  says_note here gains = says true here (with_newline note.0) (note.0, (found, by, note.1), refl) gains

  -- the note is gathered
  pub said_gathered : reports ≡ true → IfSome (note_text file number line said found) (λ text. gathered_then ≡ gathered ++ with_newline text) → before ≡ after → IsSaid
  said_gathered here pushed kept =
      let noted : gathered_then ≡ gathered ++ with_newline note.0 = subst (λ t. IfSome t (λ text. gathered_then ≡ gathered ++ with_newline text)) note.1 pushed in
      says_note here (subst (λ a. Gains (with_newline note.0) before a gathered gathered_then) kept (gains_gathered (with_newline note.0) before gathered gathered_then noted))

  -- what was gathered is written, and the note after it
  pub said_printed : (mid : Option Text) → reports ≡ true → Writes gathered before mid → gathered_then ≡ [] → IfSome (with_end (note_text file number line said found)) (Appends mid after) → IsSaid
  said_printed mid here written none printed =
      let appended : Appends mid after (with_newline note.0) = subst (λ t. IfSome (with_end t) (Appends mid after)) note.1 printed in
      says_note here (gains_written (with_newline note.0) before after gathered gathered_then none (writes_more gathered (with_newline note.0) before mid after written (writes_from_appends (with_newline note.0) mid after appended)))

module _ {J W E : Type 0} {outcome : J → Text → Outcome} {goes_on : J → Option Text → J → Type 0} {contents : W → Option Text} {old new : Texts J W E} where
  -- nothing changed of what contracts speak of
  pub job_kept : new.job ≡ old.job → new.status ≡ old.status → StaysAt old new → new.out ≡ old.out → new.answers.items ≡ old.answers.items → DoesJob outcome goes_on contents old [] new
  job_kept job status place out answers = record {
    texts = [];
    does = (job, status);
    gains = rw out (gains_gathered [] (contents (inner_of old.out)) old.answers.items new.answers.items (answers ∙ sym (append-nil old.answers.items)));
    file = place.0;
    numbers = place.1;
    reports = place.2;
  }

  -- what was gathered is written
  pub job_flushed : new.job ≡ old.job → new.status ≡ old.status → StaysAt old new → new.answers.items ≡ [] → Writes old.answers.items (contents (inner_of old.out)) (contents (inner_of new.out)) → DoesJob outcome goes_on contents old [] new
  job_flushed job status place none written = record {
    texts = [];
    does = (job, status);
    gains = gains_written [] (contents (inner_of old.out)) (contents (inner_of new.out)) old.answers.items new.answers.items none (rw append-nil written);
    file = place.0;
    numbers = place.1;
    reports = place.2;
  }

  -- the job has answered a line
  pub line_answered : (line text : Text) → outcome old.job line ≡ Written text → goes_on old.job (Some line) new.job → new.status ≡ old.status → new.file ≡ old.file → new.number ≡ next_number old.number → new.reports ≡ old.reports → new.out ≡ old.out → new.answers.items ≡ old.answers.items ++ text → DoesJob outcome goes_on contents old (Some line ∷ []) new
  line_answered line text is goes status file number reports out answers = record {
    texts = text ∷ [];
    does = (new.job, new.status, inl (is, goes, status), (refl, refl));
    gains = rw (out, append-nil) (gains_gathered text (contents (inner_of old.out)) old.answers.items new.answers.items answers);
    file = file;
    numbers = number;
    reports = reports;
  }

-- the same, where the state is known
abbrev pub IsSaidOf : {J W E : Type 0} → (W → Option Text) → Text → LineFault → Texts J W E → Texts J W E → Type 0
IsSaidOf contents line fault now new =
    SaysWrong now.reports now.file.now now.number line fault (contents (inner_of now.out)) (contents (inner_of new.out)) now.answers.items new.answers.items

-- a line came in that is wrong
module _ {J W E : Type 0} (contents : W → Option Text) (line : Text) (fault : LineFault) (old now new : Texts J W E) (status : now.status ≡ old.status) (file : now.file ≡ old.file) (number : now.number ≡ next_number old.number) (reports : now.reports ≡ old.reports) (out : now.out ≡ old.out) (answers : now.answers.items ≡ old.answers.items) (said : IsSaidOf contents line fault now new) where
  stands : StandsForWrong old.reports old.file.now (next_number old.number) line said.0 said.2
  stands = rw (← reports, ← file, ← number) said.3

  gains_said : Gains (concat (said.2 ∷ [])) (contents (inner_of old.out)) (contents (inner_of new.out)) old.answers.items new.answers.items
  gains_said = rw (append-nil, ← out, ← answers) said.4

  module _ (outcome : J → Text → Outcome) (goes_on : J → Option Text → J → Type 0) (place : StaysAt now new) (wrong : TurnsWrong now.status new.status) where
    turned : TurnsWrong old.status new.status
    turned = wrong ∙ ap (λ s. max (number_of s) 1) status

    says_of : (o : Outcome) → IsFaultOf o fault → IsFaultOf o said.0
    says_of o is = elim said.1 [
      | inl same ↦ rw same is
      | inr memory ↦ rw memory tt
    ]

    pub line_wrong : IsFaultOf (outcome old.job line) fault → goes_on old.job None new.job → DoesJob outcome goes_on contents old (Some line ∷ []) new
    line_wrong is goes = record {
      texts = said.2 ∷ [];
      does = (new.job, new.status, inr (said.0, says_of (outcome old.job line) is, stands, goes, turned), (refl, refl));
      gains = gains_said;
      file = place.0 ∙ file;
      numbers = place.1 ∙ number;
      reports = place.2 ∙ reports;
    }

    -- memory was refused for the line
    pub line_refused : line ≡ [] → fault ≡ Memory → new.job ≡ old.job → DoesJob outcome goes_on contents old (None ∷ []) new
    line_refused none memory same =
        let says : said.0 ≡ Memory = elim said.1 [ inl is ↦ is ∙ memory | inr is ↦ is ] in
        record {
          texts = said.2 ∷ [];
          does = (new.job, new.status, (same, rw (← none, ← says) stands, turned), (refl, refl));
          gains = gains_said;
          file = place.0 ∙ file;
          numbers = place.1 ∙ number;
          reports = place.2 ∙ reports;
        }

module _ {J W E : Type 0} (given : Texts J W E → List (Option Text) → Texts J W E → Type 0) where
  pub DoesFiles-push : (files : List (Bor Text)) (statuses : List Status) (file : Bor Text) (status : Status) (old mid new : Texts J W E) → DoesFiles given files statuses old mid → GivesFile given status (record mid { file = file; number = 0 }) new → DoesFiles given (files ++ file ∷ []) (statuses ++ status ∷ []) old new
  DoesFiles-push [] [] file status old mid new d g = (new, subst (λ t. GivesFile given status (record t { file = file; number = 0 }) new) d g, refl)
  DoesFiles-push [] (s ∷ statuses) file status old mid new d g = absurd d
  DoesFiles-push (f ∷ files) [] file status old mid new d g = absurd d
  DoesFiles-push (f ∷ files) (s ∷ statuses) file status old mid new d g = (d.0, d.1, DoesFiles-push files statuses file status d.0 mid new d.2 g)

  -- the files before the index were read, and then the one at it
  pub one_more_file : (files : List (Bor Text)) (i : ℕ) (other : Bor Text) → i < length files → (statuses : List Status) (status : Status) (old mid begun new : Texts J W E) → DoesFiles given (take i files) statuses old mid → begun ≡ record mid { file = slice_index_or files i other; number = 0 } → GivesFile given status begun new → DoesFiles given (take (i + 1) files) (statuses ++ status ∷ []) old new
  one_more_file files i other under statuses status old mid begun new d b g =
      let taken : take i files ++ slice_index_or files i other ∷ [] ≡ take (i + 1) files = grind (arith, common_steps) in
      subst (λ read. DoesFiles given read (statuses ++ status ∷ []) old new) taken
      (DoesFiles-push (take i files) statuses (slice_index_or files i other) status old mid new d (subst (λ t. GivesFile given status t new) b g))

pub worst_more : (statuses : List Status) (status now new : Status) → number_of now ≡ fold max 0 (map number_of statuses) → number_of new ≡ max (number_of now) (number_of status) → number_of new ≡ fold max 0 (map number_of (statuses ++ status ∷ []))
worst_more statuses status now new e f =
    f ∙ ap (λ n. max n (number_of status)) e ∙ sym (fold-append max 0 (map number_of statuses) (number_of status ∷ []))
    ∙ ap (fold max 0) (sym (map-append number_of statuses (status ∷ [])))

-- lines are written
module _ {R : Type 0} (text : R → Text) (lines : List R) (i : ℕ) where
  -- one line more was written, and its LF
  pub one_more_line : (other : R) (bytes : Text) → i < length lines → bytes ≡ text (slice_index_or lines i other) → (a b c d : Option Text) → Appends a b (with_newlines (map text (take i lines))) → Appends b c bytes → Appends c d (10 ∷ []) → Appends a d (with_newlines (map text (take (i + 1) lines)))
  one_more_line other bytes under is a b c d f g h =
      let last = slice_index_or lines i other in
      let taken : take i lines ++ last ∷ [] ≡ take (i + 1) lines = grind (arith, common_steps) in
      let written : with_newlines (map text (take i lines)) ++ (text last ++ 10 ∷ []) ≡ with_newlines (map text (take i lines ++ last ∷ [])) =
      sym (ap with_newlines (map-append text (take i lines) (last ∷ [])) ∙ flat_map-append with_newline (map text (take i lines)) (text last ∷ []) ∙ ap (λ t. with_newlines (map text (take i lines)) ++ t) (append-nil (with_newline (text last)))) in
      subst (λ l. Appends a d (with_newlines (map text l))) taken (subst (Appends a d) written (Appends-trans a b d _ _ f (Appends-trans b c d _ _ (subst (Appends b c) is g) h)))

  -- all were written, and what was written is kept
  pub lines_written : length lines ≤ i → (a b c : Option Text) → Appends a b (with_newlines (map text (take i lines))) → Keeps b c → Appends a c (with_newlines (map text lines))
  lines_written over a b c f k =
      let all : take i lines ≡ lines = grind (arith, common_steps) in
      subst (λ l. Appends a c (with_newlines (map text l))) all (Appends-kept a b c _ f k)

-- what holds anyway holds where a call went well
pub on_ok : {T E P : Type 0} (r : Result T E) → P → OnOk r P
on_ok r p = grind arith

-- an output has failed or has not
pub not_failed : {P : Type 0} (failure : Option Error) → failure ≡ None → is_some failure ≡ true → P
not_failed None none failed = cc
not_failed (Some error) none failed = grind arith

pub if_written : {T E P : Type 0} (written : Result T E) (failure : Option Error) → OnOk written P → OnErr written (is_some failure ≡ true) → failure ≡ None → P
if_written (Ok done) failure ok err none = ok
if_written (Err error) failure ok err none = not_failed failure none err

-- what holds where a call went well
pub when_ok : {T E P : Type 0} (r : Result T E) → is_err r ≡ false → OnOk r P → P
when_ok (Ok v) well p = p
when_ok (Err e) well p = grind arith

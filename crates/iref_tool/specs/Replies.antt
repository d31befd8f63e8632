-- An answer to the words of a command, or which word is wrong.
use Rattle.std.specs.Prelude.{◌≡◌, ◌-◌, ℕ, List, [], ◌∷◌, length, Option, None, Some, Result, Ok, Err, MatchResult, IsSomeAnd, String, string_bytes, codes}
use Rattle.iref.specs.{Characters.{iri_chars}, Faults.{FaultValue, fault_of_reference, fault_of_uri}, BytePlaces.{fault_value}, Rules.{Text}}
use Rattle.iref_batch.specs.Lines.{LineAnswer, Answered}
use Rattle.iref_tool.specs.declared.refusal.{Reason.{Reason}, Refusal.{Refusal}}
use Rattle.iref_tool.specs.declared.refusal.Reason.TheVariants as reason
use Rattle.iref_tool.specs.declared.refusal.Refusal.TheVariants.{Word, Memory}

-- of which argument which word has at its end no text of a kind, from which byte and why; or why else it is wrong
pub data WrongWord : Type 0 where
  NoText : Text → Text → Text → ℕ → FaultValue → WrongWord
  Refuses : Text → Text → Reason → WrongWord

abbrev pub Reply : Type 0
Reply = Result LineAnswer WrongWord

abbrev pub and_then : {A B : Type 0} → (A → Result B WrongWord) → Result A WrongWord → Result B WrongWord
and_then f (Ok read) = f read
and_then f (Err wrong) = Err wrong

-- what words change one after the other, up to the first that is wrong
unfoldable pub read_all : {A : Type 0} → (A → Text → Result A WrongWord) → A → List Text → Result A WrongWord
read_all step read [] = Ok read
read_all step read (word ∷ words) = and_then (λ more. read_all step more words) (step read word)

-- what a refusal says of a word
abbrev pub wrong_word : Text → Text → Reason → WrongWord
wrong_word argument word (reason.Text kind start fault) = NoText argument kind.now word start (fault_value fault)
wrong_word argument word why = Refuses argument word why

-- the refusal says what is wrong; or that memory was refused, where that is allowed
abbrev pub Says : {A : Type 0} → Type 0 → Result A WrongWord → Refusal → Type 0
Says allowed read Memory = allowed
Says allowed read (Word argument word why) = read ≡ Err (wrong_word argument.now word.now why)

abbrev pub Tells : {A : Type 0} → Result A WrongWord → Refusal → Type 0
Tells read = Says (Unit {0}) read

-- the call has returned what shows this, or what is wrong; memory may be refused
abbrev pub Returns : {A V : Type 0} → (V → A) → Result A WrongWord → Result V Refusal → Type 0
Returns shown read result = MatchResult result (λ v. read ≡ Ok (shown v)) (Tells read)

-- the same, where no memory is requested
abbrev pub ReadsWord : {A V : Type 0} → (V → A) → Result A WrongWord → Result V Refusal → Type 0
ReadsWord shown read result = MatchResult result (λ v. read ≡ Ok (shown v)) (Says ⊥ read)

-- the text is the answer
abbrev pub IsAnswer : {A : Type 0} → Reply → String A → Type 0
IsAnswer reply text = reply ≡ Ok (Answered (string_bytes text))

-- the call has answered so, unless memory was refused
abbrev pub EndsAs : {A : Type 0} → Reply → Result (String A) Refusal → Type 0
EndsAs reply result = Returns (λ text. Answered (string_bytes text)) reply result

-- the same, where there may be no answer of words
abbrev pub MayEndAs : {A : Type 0} → Option Reply → Result (Option (String A)) Refusal → Type 0
MayEndAs None result = result ≡ Ok None
MayEndAs (Some reply) result = MatchResult result (λ answer. IsSomeAnd answer (IsAnswer reply)) (Tells reply)

-- what is read, where the text at the end of the word has no fault as one of the kind
abbrev pub unless_wrong : {A : Type 0} → Text → Text → Text → Text → Option FaultValue → Result A WrongWord → Result A WrongWord
unless_wrong argument kind word text None read = read
unless_wrong argument kind word text (Some fault) read = Err (NoText argument kind word (length word - length text) fault)

-- the same, where the word is to be a reference of IRIs
abbrev pub if_reference : {A : Type 0} → Text → Text → Result A WrongWord → Result A WrongWord
if_reference argument word read = unless_wrong argument (codes "IRI reference") word word (fault_of_reference iri_chars word) read

-- and where the text at its end is to be an IRI
abbrev pub if_iri : {A : Type 0} → Text → Text → Text → Result A WrongWord → Result A WrongWord
if_iri argument word text read = unless_wrong argument (codes "IRI") word text (fault_of_uri iri_chars text) read

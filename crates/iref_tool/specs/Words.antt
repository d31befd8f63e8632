-- The words of a command, why some are refused, and what the program ends with then.
use Rattle.std.specs.Prelude.{◌≡◌, ◌-◌, Bool, false, List, [], length, Option, None, Some, Result, MatchResult, bytes_eq, codes, option_map, unwrap_or}
use Rattle.clap.specs.{declared.parser.matches.Found.{Found}, Words.{first_value, matched_of, raw_values}}
use Rattle.iref.specs.{BytePlaces.{fault_value}, Faults.{FaultValue}, Rules.{Text}}
use Rattle.iref_fault.specs.declared.fault.Fault.{Fault}
use Rattle.iref_reference.specs.{References.{reference_text}, declared.borrowed.Reference.{Reference}}
use Rattle.iref_batch.specs.declared.status.{Status.{Status}, Status.TheVariants.{Misused, Wrong}}
use Rattle.iref_tool.specs.declared.refusal.{Reason.{Reason}, Refusal.{Refusal}}
use Rattle.iref_tool.specs.declared.refusal.Reason.TheVariants as reason
use Rattle.iref_tool.specs.declared.refusal.Refusal.TheVariants.{Word, Memory}

-- the word that stands for an argument, or the empty text; and all of them
abbrev pub word : Found → Text → Text
word found id = unwrap_or (first_value found id) []

abbrev pub words : Found → Text → List Text
words found id = unwrap_or (option_map raw_values (matched_of found id)) []

-- whether an option without a value was given
abbrev pub is_given : Found → Text → Bool
is_given found id = unwrap_or (option_map (λ given. bytes_eq given (codes "true")) (first_value found id)) false

-- the text was read, or it is outside its rule
abbrev pub ReadsText : {R C K r k c : _} → Option FaultValue → Text → Result (Reference R C K r k c) Fault → Type 0
ReadsText fault text result = MatchResult result (λ r. (reference_text r ≡ text) × (fault ≡ None)) (λ f. fault ≡ Some (fault_value f))

-- the refusal says of which argument which word is wrong, and where the text at the end of the word is outside its rule
abbrev pub RefusesText : Text → Text → Text → Text → Option FaultValue → Refusal → Type 0
RefusesText argument kind word text fault (Word a w (reason.Text k start f)) =
    (a.now ≡ argument) × (w.now ≡ word) × (k.now ≡ kind) × (start ≡ length word - length text) × (fault ≡ Some (fault_value f))
RefusesText argument kind word text fault _ = ⊥

-- the text at the end of the word was read, or is refused as one that is outside its rule
abbrev pub ReadsAtEnd : {V : Type 0} → (V → Text) → Option FaultValue → Text → Text → Text → Text → Result V Refusal → Type 0
ReadsAtEnd shown fault argument kind word text result =
    MatchResult result (λ v. (shown v ≡ text) × (fault ≡ None)) (RefusesText argument kind word text fault)

-- wrong uses of the command are told from wrong texts
abbrev pub status_of_reason : Reason → Status
status_of_reason reason.NoEdit = Misused
status_of_reason reason.NoValue = Misused
status_of_reason reason.Value = Misused
status_of_reason reason.NoEntry = Misused
status_of_reason _ = Wrong

abbrev pub status_of : Refusal → Status
status_of (Word argument word why) = status_of_reason why
status_of Memory = Wrong

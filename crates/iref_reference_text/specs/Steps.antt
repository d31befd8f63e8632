-- What an edit leaves: the spelling of a value, which is read back.
use Rattle.std.specs.Prelude.{◌≡◌, Result, MatchResult}
use Rattle.iref_grammar.specs.{Rules.{Text}, Reference.{ReferenceValue, read_reference, spell}}

-- the text spells the value, and is read as it
abbrev pub Spells : ReferenceValue → Text → Type 0
Spells value text = (text ≡ spell value) × (read_reference text ≡ value)

-- the text is edited by a step: it spells the step of what the old text is read as
abbrev pub IsStep : (ReferenceValue → ReferenceValue) → Text → Text → Type 0
IsStep step old new = Spells (step (read_reference old)) new

-- an edit: at Ok it is this step of the text, and at an Err the text is as it was
abbrev pub StepsOrStays : {V E : Type 0} → (ReferenceValue → ReferenceValue) → Text → Text → Result V E → Type 0
StepsOrStays step old new result = MatchResult result (λ _. IsStep step old new) (λ _. new ≡ old)

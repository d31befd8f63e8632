-- What the calls answer: a status, and what they leave in what the caller lends them.
use Rattle.std.specs.Prelude.{◌≡◌, ℕ, ⊤, ◌<◌, ◌≤◌, ◌++◌, ◌⊎◌, Option, None, Some, length, drop}
use Rattle.iref.specs.{Characters.{iri_chars}, Grammar.{IsUriReference}, Reference.{ReferenceValue, read_reference}}
use Rattle.iref.specs.Rules.{InUtf8, Rule, Text}
use Rattle.iref_c.specs.declared.status.TheConstants.{OK, INVALID, SECOND_INVALID, SHORT, MEMORY, NONE}

-- A call on two texts, of which each is in its rule or not: where both are, it is done. Else its status says which is the
-- first that is not, and all stays as it was. A call on one text has a second that always is.
pub record Answers (valid other_valid done unchanged : Type 0) (status : ℕ) : Type 0 where
  pub valid_done : valid → other_valid → done
  pub first_invalid : ¬ valid → (status ≡ INVALID) × unchanged
  pub second_invalid : valid → ¬ other_valid → (status ≡ SECOND_INVALID) × unchanged

-- a call that writes a value
abbrev pub Stores : {V : Type 0} → Type 0 → Type 0 → V → V → V → ℕ → Type 0
Stores valid other_valid value before after status = Answers valid other_valid ((status ≡ OK) × (after ≡ value)) (after ≡ before) status

-- the text of a reference of IRIs
abbrev pub IsReference : Rule
IsReference = InUtf8 (IsUriReference iri_chars)

-- a call that writes a value of the components of a text of the rule
abbrev pub StoresOf : {V : Type 0} → Rule → (ReferenceValue → V) → Text → V → V → ℕ → Type 0
StoresOf rule value text = Stores (InUtf8 rule text) ⊤ (value (read_reference text))

-- a call that writes a value of two references
abbrev pub StoresOfTwo : {V : Type 0} → (ReferenceValue → ReferenceValue → V) → Text → Text → V → V → ℕ → Type 0
StoresOfTwo value first second = Stores (IsReference first) (IsReference second) (value (read_reference first) (read_reference second))

-- the status of the first of two texts that is not in its rule
abbrev pub ReportsInvalid : Type 0 → Type 0 → ℕ → Type 0
ReportsInvalid valid other_valid = Answers valid other_valid ⊥ ⊤

-- the text stands first in the buffer, whose rest is as it was, or it is longer than the buffer; its length is written in both cases
abbrev pub IsWritten : Text → Text → Text → ℕ → ℕ → Type 0
IsWritten text before after needed status =
    (needed ≡ length text)
    × (((status ≡ OK) × (length text ≤ length before) × (after ≡ text ++ drop (length text) before))
    ⊎ ((status ≡ SHORT) × (length before < length text) × (after ≡ before)))

-- memory is wanted, and nothing is changed
abbrev pub IsRefused : Text → Text → ℕ → ℕ → ℕ → Type 0
IsRefused before after needed_before needed status = (status ≡ MEMORY) × (after ≡ before) × (needed ≡ needed_before)

-- a call that writes a text
abbrev pub Writes : Type 0 → Type 0 → Text → Text → Text → ℕ → ℕ → ℕ → Type 0
Writes valid other_valid text before after needed_before needed status =
    Answers valid other_valid (IsWritten text before after needed status ⊎ IsRefused before after needed_before needed status)
    ((after ≡ before) × (needed ≡ needed_before)) status

-- the text is written, if there is one, and else nothing
abbrev pub IsWrittenIfSome : Option Text → Text → Text → ℕ → ℕ → ℕ → Type 0
IsWrittenIfSome None before after needed_before needed status = (status ≡ NONE) × (after ≡ before) × (needed ≡ needed_before)
IsWrittenIfSome (Some text) before after needed_before needed status = IsWritten text before after needed status

-- a call that writes a text, if there is one
abbrev pub WritesIfSome : Type 0 → Type 0 → Option Text → Text → Text → ℕ → ℕ → ℕ → Type 0
WritesIfSome valid other_valid found before after needed_before needed status =
    Answers valid other_valid (IsWrittenIfSome found before after needed_before needed status ⊎ IsRefused before after needed_before needed status)
    ((after ≡ before) × (needed ≡ needed_before)) status

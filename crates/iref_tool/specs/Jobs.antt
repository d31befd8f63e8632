-- What the command makes of a line of a file.
use Rattle.std.specs.Prelude.{◌≡◌, Bool, ◌||◌, List, [], ◌∷◌, ◌++◌, Option, Some, None, Result, Ok, Err, is_none, is_some, if◌then◌else◌}
use Rattle.std.specs.{BTreeSet.{contains}, List.{filter}, List.Sorted.{IsPermutation, IsSorted, IsStable}, Ordering.{on}}
use Rattle.iref.specs.{Characters.{iri_chars, uri_chars}, Faults.{FaultValue, fault_of_reference, fault_of_uri}}
use Rattle.iref.specs.{BytePlaces.{fault_value}, Keys.{text_order}, Key.{are_alike, key, key_cmp}, Lists.{key_of_text}, Rules.{Text}}
use Rattle.iref.specs.{Reference.{ReferenceValue, read_reference}, ReferenceSuffix.{reference_suffix}, SortKey.{sort_key}}
use Rattle.iref_batch.specs.{Lines.{tab}, Runs.{ended_lines, with_newline}, Gathering.{Extends}}
use Rattle.iref_tool.specs.declared.jobs.{LineFault.{LineFault}, Sort.{Sort}, Unique.{Unique}}
use Rattle.iref_tool.specs.declared.jobs.LineFault.TheVariants.{Invalid, NoReference, Memory}

-- a text is written; or the line is outside its rule, and why; or no reference resolves to it
pub data Outcome : Type 0 where
  Written : Text → Outcome
  Refused : FaultValue → Outcome
  Unreached : Outcome

-- the fault is that of the line; memory may be refused for any
abbrev pub IsFaultOf : Outcome → LineFault → Type 0
IsFaultOf outcome (Invalid fault) = outcome ≡ Refused (fault_value fault)
IsFaultOf outcome NoReference = outcome ≡ Unreached
IsFaultOf outcome Memory = Unit {0}

-- the call has added the text; or it has returned the fault, and may have added a part
abbrev pub EndsBy : Outcome → Text → Text → Result (Unit {0}) LineFault → Type 0
EndsBy outcome old new (Ok _) = (text : Text) × (outcome ≡ Written text) × (new ≡ old ++ text)
EndsBy outcome old new (Err fault) = IsFaultOf outcome fault × Extends old new

-- what is made of a line in its rule; of another its fault
abbrev pub unless_fault : Option FaultValue → Outcome → Outcome
unless_fault None outcome = outcome
unless_fault (Some fault) outcome = Refused fault

-- the rule is that of IRI references
abbrev pub of_reference : (ReferenceValue → Outcome) → Text → Outcome
of_reference outcome line = unless_fault (fault_of_reference iri_chars line) (outcome (read_reference line))

-- the rule is that of IRIs
abbrev pub of_iri : (ReferenceValue → Outcome) → Text → Outcome
of_iri outcome line = unless_fault (fault_of_uri iri_chars line) (outcome (read_reference line))

-- the answer in a line of its own, which the line that it answers may follow
abbrev pub answer_line : Bool → Text → Text → Text
answer_line keep line answer = with_newline (if keep then answer ++ tab ∷ line else answer)

-- the rule may be that of URI references, or want a scheme
abbrev pub fault_in : Bool → Bool → Text → Option FaultValue
fault_in uri absolute = (if absolute then fault_of_uri else fault_of_reference) (if uri then uri_chars else iri_chars)

-- whether the reference has a suffix after another
abbrev pub is_below : ReferenceValue → ReferenceValue → Bool
is_below above r = is_some (reference_suffix above r)

-- whether the reference is equal to a line before
abbrev pub has_seen : Unique → ReferenceValue → Bool
has_seen unique r = contains text_order unique.seen (sort_key (key r))

-- what was seen before is still seen; so is a line that was answered, and nothing else
abbrev pub SeesMore : Unique → Option Text → Unique → Type 0
SeesMore old None new = (r : ReferenceValue) → has_seen new r ≡ has_seen old r
SeesMore old (Some line) new = (r : ReferenceValue) → has_seen new r ≡ (are_alike (read_reference line) r || has_seen old r)

-- the lines gathered, each with its LF
abbrev pub gathered : Sort → Text
gathered sort = sort.text.items

-- what was gathered stays; a line that was answered is added with its LF
abbrev pub Gathers : Sort → Option Text → Sort → Type 0
Gathers old None new = gathered new ≡ gathered old
Gathers old (Some line) new = gathered new ≡ gathered old ++ with_newline line

-- nothing is written for a line that is gathered
abbrev pub sort_outcome : Sort → Text → Outcome
sort_outcome sort line = of_reference (λ r. Written []) line

-- the answer, if there is one
abbrev pub or_unreached : (ReferenceValue → Text) → Option ReferenceValue → Outcome
or_unreached write None = Unreached
or_unreached write (Some r) = Written (write r)

-- the lines gathered that are IRI references
abbrev pub lines_in : Sort → List Text
lines_in sort = filter (λ line. is_none (fault_of_reference iri_chars line)) (ended_lines (gathered sort))

-- the lines gathered in order of their keys, those that are equal in the order in which they came
pub record Sorts (sort : Sort) (lines : List Text) : Type 0 where
  pub same : IsPermutation (lines_in sort) lines
  pub order : IsSorted (on key_of_text key_cmp) lines
  pub stable : IsStable (on key_of_text key_cmp) (lines_in sort) lines

-- What an edit by many segments takes of an iterator, and what it makes of a path.
use Rattle.std.specs.Prelude.{Bool, false, true, List, Option, Result, ◌≡◌, fold, map, IfNone, MatchOption, MatchResult}
use Rattle.std.specs.{Borrow.{Bor}, Iterator.{YieldsThen, Drains}, List.{All}}
use Rattle.iref_grammar.specs.{declared.context.PathContext.{PathContext}, Characters.{CharTests}, Grammar.{IsSegment}}
use Rattle.iref_grammar.specs.{PathValue.{PathValue}, Rules.{Text, InUtf8}}
use Rattle.iref_grammar.specs.{NormalList.{ends_in_dots}, PathSteps.{appended, followed, lazy_appended}}
use Rattle.iref_component.specs.{declared.rule_text.RuleText.{RuleText}, Components.{text_of}, PathEdits.{PathStep}}
use Rattle.iref_fault.specs.{Tried.{InvalidIfOutside}, declared.edit.TryError.{TryError}}
use Rattle.iref_fault.specs.declared.edit.TryError.TheVariants.{Memory}
use Rattle.iref_fault.specs.declared.invalid.InvalidSegment.{InvalidSegment}

-- of the iterator that is made of the source it takes all items, up to the first None, and this is true of them
abbrev pub TakesAll : {U S X : Type 0} → (U → S → Type 0) → (S → Option X → S → Type 0) → U → (List X → Type 0) → Type 0
TakesAll {U} {S} {X} becomes steps source Holds = (iterator : S) × (items : List X) × becomes source iterator × Drains steps iterator items × Holds items

-- it takes these items first, the call after them gives this, and that is true of both
abbrev pub TakesFirst : {U S X : Type 0} → (U → S → Type 0) → (S → Option X → S → Type 0) → U → (List X → Option X → Type 0) → Type 0
TakesFirst {U} {S} {X} becomes steps source Holds = (iterator : S) × (items : List X) × (next : Option X) × (rest : S) × becomes source iterator × YieldsThen steps iterator items next rest × Holds items next

-- what the texts of segments make of a path, in the context of what stands before it
abbrev pub ListStep : Type 0
ListStep = PathContext → List Text → PathValue → PathValue

-- an edit by segments: what all of them make of a path, what those before a refused one make of it, and whether the path is closed after the last
pub record ListEdit : Type 0 where
  pub whole : ListStep
  pub before : ListStep
  pub closes : List Text → Bool

-- each is put at the end as it is
abbrev pub lazily : ListEdit
lazily = record { whole = lazy_appended; before = lazy_appended; closes = λ _. false }

-- each is followed, and the path is closed after a last . or ..
abbrev pub following : ListEdit
following = record { whole = appended; before = λ context items path. fold (followed context) path items; closes = ends_in_dots }

-- an edit by segments: at Ok all were taken, and the path becomes what they make of it; at an Err the next segment is refused, or after the last the closing, and the path becomes what those before make of it
abbrev pub Appends : {T R C K t r k c : _} {U S V E : Type 0} → ListEdit → (U → S → Type 0) → (S → Option (RuleText T R C K t r k c) → S → Type 0) → U → (PathStep → Type 0) → Result V E → Type 0
Appends edit becomes steps source Becomes result = MatchResult result
    (λ _. TakesAll becomes steps source (λ items. Becomes (λ context. edit.whole context (map text_of items))))
    (λ _. TakesFirst becomes steps source (λ items next. IfNone next (edit.closes (map text_of items) ≡ true) × Becomes (λ context. edit.before context (map text_of items))))

-- the texts of borrowed items
abbrev pub item_texts : List (Bor Text) → List Text
item_texts items = map (λ item. item.now) items

-- the text is a segment
abbrev pub IsSegmentText : CharTests → Bor Text → Type 0
IsSegmentText set item = InUtf8 (IsSegment set) item.now

-- the error says whether the next text is a segment, and holds it where it is not one; where no text is left, memory ran out, and the path is to be closed
abbrev pub RefusesNext : CharTests → Bool → Option (Bor Text) → TryError (InvalidSegment (Bor Text)) → Type 0
RefusesNext set closes next error = MatchOption next ((error ≡ Memory) × (closes ≡ true)) (λ item. InvalidIfOutside (IsSegmentText set item) (λ invalid. invalid.0 ≡ item) error)

-- the same by texts that are tested first: those that were taken are segments, and an error returns the next one if it is no segment
abbrev pub TriesAppends : {U S V : Type 0} → ListEdit → CharTests → (U → S → Type 0) → (S → Option (Bor Text) → S → Type 0) → U → (PathStep → Type 0) → Result V (TryError (InvalidSegment (Bor Text))) → Type 0
TriesAppends edit set becomes steps source Becomes result = MatchResult result
    (λ _. TakesAll becomes steps source (λ items. All (IsSegmentText set) items × Becomes (λ context. edit.whole context (item_texts items))))
    (λ error. TakesFirst becomes steps source (λ items next. All (IsSegmentText set) items × RefusesNext set (edit.closes (item_texts items)) next error × Becomes (λ context. edit.before context (item_texts items))))

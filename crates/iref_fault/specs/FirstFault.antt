-- What the fault of a text is: that of its first piece, in the order in which they stand, that is outside its rule.
use Rattle.std.specs.{Prelude.{◌≡◌, ℕ, ◌+◌, List, ◌∷◌, ◌++◌, chars}, List.{AllByRecursion}}
use Rattle.iref_grammar.specs.{Characters.{CharTests}, Rules.{Text, InUtf8}}
use Rattle.iref_fault.specs.{Places.{PartRule, rule_of, IsPlaceIn, bytes_before}, Cut.{Piece}}
use Rattle.iref_fault.specs.Faults.{FaultValue, fault_at}

-- the piece is in its rule
abbrev pub IsInRule : CharTests → Piece → Type 0
IsInRule set p = InUtf8 (rule_of set p.rule) p.text

abbrev pub AreInRules : CharTests → List Piece → Type 0
AreInRules set ps = AllByRecursion (IsInRule set) ps

-- The pieces before this one are in their rules, and it is wrong at the place: the fault names it, and the place in bytes of the whole.
pub record IsFirstFault (set : CharTests) (text : Text) (ps : List Piece) (f : FaultValue) : Type 0 where
  pub front : List Piece
  pub piece : Piece
  pub back : List Piece
  pub place : ℕ
  pub divided : front ++ piece ∷ back ≡ ps
  pub in_rules : AreInRules set front
  pub stands : IsPlaceIn set piece.rule (chars piece.text) place
  pub named : fault_at text piece.rule (piece.start + bytes_before place (chars piece.text)) ≡ f

-- The single text is wrong at the place: the fault names its component, and the place in bytes.
pub record IsPartFault (set : CharTests) (rule : PartRule) (text : Text) (f : FaultValue) : Type 0 where
  pub place : ℕ
  pub stands : IsPlaceIn set rule (chars text) place
  pub named : fault_at text rule (bytes_before place (chars text)) ≡ f

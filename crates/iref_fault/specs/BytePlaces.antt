-- Places in bytes, as code counts them, and what proofs see of a fault.
use Rattle.std.specs.{Prelude.{ℕ, ◌+◌, List, [], ◌∷◌, drop, Option, Some, None, option_map, chars}, Option.{option_or}}
use Rattle.iref_grammar.specs.{Characters.{CharTests}, Rules.{Text}}
use Rattle.iref_fault.specs.declared.component.Cause.{Cause}
use Rattle.iref_fault.specs.declared.component.Cause.TheVariants.{Invalid, NoScheme, NotUtf8}
use Rattle.iref_fault.specs.{declared.component.Component.{Component}, declared.fault.Fault.{Fault}}
use Rattle.iref_fault.specs.{declared.pieces.Place.{Place}, Places.{component_of, place_in, bytes_before}, Cut.{Piece}}
use Rattle.iref_fault.specs.Faults.{FaultValue, first_char}

-- a place among characters, in bytes, where this many bytes stand before them
abbrev pub located : ℕ → Text → Option ℕ → Option ℕ
located start cs place = option_map (λ n. start + bytes_before n cs) place

-- where the bytes of a text are outside a rule, which is given by its place among characters
abbrev pub byte_place : (Text → Option ℕ) → Text → Option ℕ
byte_place place text = located 0 (chars text) (place (chars text))

-- a place in a component that begins at start
abbrev pub placed : Component → ℕ → Option ℕ → Option Place
placed component start at = option_map (λ n. record { component = component; at = start + n }) at

-- where a piece is outside its rule, in bytes of the whole text
abbrev pub place_of_piece : CharTests → Piece → Option Place
place_of_piece set p = placed (component_of p.rule) p.start (byte_place (place_in set p.rule) p.text)

-- the place of the first piece that is outside its rule
abbrev pub first_place : CharTests → List Piece → Option Place
first_place set [] = None
first_place set (p ∷ ps) = option_or (place_of_piece set p) (first_place set ps)

-- the fault at a place of a text
abbrev pub value_at : Text → Place → FaultValue
value_at text p = record { cause = Invalid p.component; at = p.at; found = first_char (chars (drop p.at text)) }

-- what a fault says
abbrev pub fault_value : Fault → FaultValue
fault_value f = record { cause = f.cause; at = f.at; found = f.found }

-- the component that is outside its rule, if it is one
abbrev pub invalid_component : Cause → Option Component
invalid_component (Invalid component) = Some component
invalid_component NoScheme = None
invalid_component NotUtf8 = None

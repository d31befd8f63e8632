-- The lines of a text that are no references, with their numbers and their faults.
use Rattle.std.specs.{Prelude.{ℕ, ◌+◌, List, [], ◌∷◌, ◌++◌, codes, Option, Some, option_map}, Fmt.{decimal, ◌++?◌}}
use Rattle.std.specs.Option.{option_to_list}
use Rattle.iref.specs.{Characters.{iri_chars}, Rules.{Text}, BytePlaces.{fault_value}}
use Rattle.iref.specs.{Faults.{FaultValue, fault_of_reference}, Printed.{fault_text}}
use Rattle.iref_examples.specs.declared.wrong_lines.WrongLine.{WrongLine}

-- the number and the fault
abbrev pub line_and_fault : WrongLine → ℕ × FaultValue
line_and_fault wrong = (wrong.number, fault_value wrong.fault)

-- of these lines, of which the first has this number
abbrev pub wrong_lines : ℕ → List Text → List (ℕ × FaultValue)
wrong_lines number [] = []
wrong_lines number (line ∷ rest) = option_to_list (option_map (λ fault. (number, fault)) (fault_of_reference iri_chars line)) ++ wrong_lines (number + 1) rest

-- what is printed of one: `line `, its number and its fault
abbrev pub wrong_line_text : ℕ × FaultValue → Option Text
wrong_line_text wrong = Some (codes "line ") ++? Some (decimal wrong.0) ++? Some (codes ": ") ++? fault_text wrong.1

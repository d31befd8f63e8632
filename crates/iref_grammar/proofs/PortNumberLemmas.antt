-- The port of a number is a port, and is read as this number.
use Rattle.std.proofs.Common.{◌≡◌, ℕ, ◌<◌, ◌^◌, length, true, [], ◌∷◌, refl, arith, rules, Some}
use Rattle.std.proofs.{lemmas.Str.Parse.{IsNumeralModel, numerals_by_value}, lemmas.Fmt.{decimal_is_IsNumeral_wide}}
use Rattle.std.specs.Str.Parse.{digits_value}
use Rattle.iref_grammar.specs.{Rules.{Text}, Tests.{is_port}}
use Rattle.iref_grammar.specs.PortNumbers.{port_value, port_text}

-- ports are the texts of digits
pub digits_of_ports : IsNumeralModel (λ digits. is_port digits ≡ true) (digits_value 10)
unfolding is_port
digits_of_ports = numerals_by_value _ (search rules)

pub value_of_digits : (digits : Text) → 0 < length digits → port_value digits ≡ Some (digits_value 10 digits)
value_of_digits [] h = absurd (omega arith)
value_of_digits (c ∷ cs) h = refl

pub port_text_is_port : (n : ℕ) → n < 2 ^ 128 → is_port (port_text n) ≡ true
port_text_is_port n h = digits_of_ports.from (port_text n) (decimal_is_IsNumeral_wide n (omega arith)).0.1

-- a number's port is of that number
pub port_read_back : (n : ℕ) → n < 2 ^ 128 → port_value (port_text n) ≡ Some n
port_read_back n h = grind (arith, decimal_is_IsNumeral_wide, value_of_digits)

-- what is written is in its rule, and is read back
pub ruleset written = (port_text_is_port, port_read_back)

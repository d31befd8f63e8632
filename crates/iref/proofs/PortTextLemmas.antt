-- A number is written as a port.
use Rattle.std.proofs.Common.{◌≡◌, ℕ, ◌<◌, ◌/◌, ◌%◌, zero, suc, true, false, ◌∷◌, arith, Option, option_map}
use Rattle.std.proofs.lemmas.Bool.Decides.{nat_tests}
use Rattle.std.specs.{Char.{is_ascii_digit}, Fmt.{digit_glyph, digits_onto, digits}, List.{list_all}}
use Rattle.iref_grammar.specs.{Rules.{Text}, Tests.{is_port, none_or}}
use Rattle.iref_grammar.specs.PortNumbers.{port_text}

glyph_is_digit : (d : ℕ) → d < 10 → is_ascii_digit (digit_glyph false d) ≡ true
glyph_is_digit d h = grind (arith, nat_tests)

all_digits : (k n : ℕ) (behind : Text) → list_all is_ascii_digit behind ≡ true → list_all is_ascii_digit (digits_onto k 10 false n behind) ≡ true
all_digits zero n behind h = h
all_digits (suc k) n behind h = grind (arith, glyph_is_digit, all_digits k (n / 10) (digit_glyph false (n % 10) ∷ behind))

pub numbers_are_ports : (number : Option ℕ) → none_or is_port (option_map port_text number) ≡ true
unfolding is_port digits
numbers_are_ports number = grind (arith, all_digits 64)

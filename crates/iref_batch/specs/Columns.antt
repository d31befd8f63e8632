-- How a text is counted in characters.
use Rattle.std.specs.{Prelude.{ℕ, Bool, ◌||◌, List, length, take, nat_le, nat_lt}, List.{filter}}

-- whether a character of UTF-8 begins with this byte (RFC 3629 section 3)
abbrev pub begins_char : ℕ → Bool
begins_char byte = nat_lt byte 0x80 || nat_le 0xC0 byte

-- how many characters begin in this many first bytes
abbrev pub chars_in_first : ℕ → List ℕ → ℕ
chars_in_first n bytes = length (filter begins_char (take n bytes))

-- Names and words as they are shown.
use Rattle.std.specs.Prelude.{◌==◌, ◌||◌, ℕ, Bool, chars, encode_utf8_all, map, if◌then◌else◌}
use Rattle.std.specs.{Char.{is_control}, Int.{is_in_range}}
use Rattle.iref.specs.Rules.{Text}

-- a control character, one that sets the direction of text, or one that ends a line
abbrev pub is_replaced : ℕ → Bool
is_replaced c =
    is_control c || c == 0x061C || c == 0x200E || c == 0x200F || is_in_range 0x2028 0x202E c || is_in_range 0x2066 0x2069 c

abbrev pub shown_char : ℕ → ℕ
shown_char c = if is_replaced c then 0xFFFD else c

-- the text with U+FFFD for each such character
abbrev pub shown : Text → Text
shown text = encode_utf8_all (map shown_char (chars text))

-- The last byte that a text decodes to (RFC 3986 section 2.1), and texts that are decoded and encoded already.
use Rattle.std.specs.Prelude.{◌≡◌, ℕ, ◌<◌, Bool, true, false, not, ◌&&◌, [], ◌∷◌, ◌++◌, length, if◌then◌else◌}
use Rattle.std.specs.{Char.{is_ascii}, List.{flat_map, list_all}}
use Rattle.percent_encoding.specs.{declared.ascii_set.AsciiSet.{AsciiSet}, AsciiSet.{should_percent_encode}}
use Rattle.percent_encoding.specs.Percent.{is_escape, percent_encode_byte}
use Rattle.iref_grammar.specs.{Grammar.{is_not_percent}, Rules.{Text}}
use Rattle.iref_parse.specs.Plain.{is_name_byte}
use Rattle.iref_canonical.specs.Canonical.{is_raw, stands}

-- the last three bytes are `%` and two hexadecimal digits
abbrev pub ends_in_escape : Text → Bool
ends_in_escape [] = false
ends_in_escape (b ∷ []) = false
ends_in_escape (b ∷ c ∷ []) = false
ends_in_escape (b ∷ c ∷ d ∷ []) = is_escape b c d
ends_in_escape (b ∷ c ∷ d ∷ e ∷ rest) = ends_in_escape (c ∷ d ∷ e ∷ rest)

-- of the bytes of a text, those of this shorter front, and then this byte
pub record SplitsLast (bytes : Text → Text) (text front : Text) (byte : ℕ) : Type 0 where
  pub split : bytes text ≡ bytes front ++ byte ∷ []
  pub shorter : length front < length text

-- a byte of the set, or beyond ASCII if such bytes do not stand raw
unfoldable pub is_escaped : Bool → AsciiSet → ℕ → Bool
is_escaped raw set b = should_percent_encode set b && not (raw && is_raw b)

-- the byte, or its escape
unfoldable pub recoded_byte : Bool → AsciiSet → ℕ → Text
recoded_byte raw set b = if is_escaped raw set b then percent_encode_byte b else b ∷ []

-- the bytes of a text, one by one
unfoldable pub recoded : Bool → AsciiSet → Text → Text
recoded raw set bytes = flat_map (recoded_byte raw set) bytes

-- a byte other than `%`, of ASCII or one that stands raw
abbrev pub is_standing : Bool → ℕ → Bool
is_standing raw b = stands raw is_ascii b && is_not_percent b

-- each byte of the text is such a byte
abbrev pub are_standing : Bool → Text → Bool
are_standing raw text = list_all (is_standing raw) text

-- a byte that is not escaped
abbrev pub is_unchanged : Bool → AsciiSet → ℕ → Bool
is_unchanged raw set b = not (is_escaped raw set b)

-- the set has no character of a registered name
abbrev pub SparesNames : AsciiSet → Type 0
SparesNames set = (b : ℕ) → is_name_byte b ≡ true → should_percent_encode set b ≡ false

-- no byte of the text is `%` or escaped
unfoldable pub is_passed : Bool → AsciiSet → Text → Bool
is_passed raw set text = list_all is_not_percent text && list_all (is_unchanged raw set) text

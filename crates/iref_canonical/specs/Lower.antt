-- Texts without an upper-case letter.
use Rattle.std.specs.{Prelude.{ℕ, Bool, not}, Char.{is_ascii_uppercase}, List.{list_all}}
use Rattle.iref_grammar.specs.Rules.{Text}

-- no upper-case letter of ASCII
abbrev pub is_lower_byte : ℕ → Bool
is_lower_byte b = not (is_ascii_uppercase b)

-- each byte of the text is none
abbrev pub is_lower : Text → Bool
is_lower text = list_all is_lower_byte text

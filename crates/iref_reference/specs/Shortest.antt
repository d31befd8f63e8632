-- The shortest reference that leads to a text, character for character (RFC 3986 section 5.2).
use Rattle.std.specs.Prelude.{◌≡◌, ◌≢◌, ◌≤◌, Option, None, Some, length, true}
use Rattle.iref_grammar.specs.{Characters.{CharTests}, Rules.{Text}}
use Rattle.iref_grammar.specs.Reference.{ReferenceValue, is_reference, read_reference, spell}
use Rattle.iref_grammar.specs.{Resolution.{resolved}, Relativized.{relativized}}

-- the text spells the answer of the definition, and is read as that; without a text there is none
abbrev pub IsRelativized : ReferenceValue → ReferenceValue → Option Text → Type 0
IsRelativized target base None = relativized target base ≡ None
IsRelativized target base (Some text) = (relativized target base ≡ Some (read_reference text)) × (text ≡ spell (read_reference text))

-- what a reference leads to from the base, as text
abbrev pub led_text : Text → Text → Text
led_text base reference = spell (resolved (read_reference base) (read_reference reference))

-- no reference leads to the target
abbrev pub NoneLeads : CharTests → Text → Text → Type 0
NoneLeads set target base = (text : Text) → is_reference set text ≡ true → led_text base text ≢ target

-- each reference that leads to the target has at least as many bytes
abbrev pub NoneIsShorter : CharTests → Text → Text → Text → Type 0
NoneIsShorter set target base answer = (text : Text) → is_reference set text ≡ true → led_text base text ≡ target → length answer ≤ length text

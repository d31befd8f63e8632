-- Which texts the labels of a prefix table are.
use Rattle.std.specs.Prelude.{ℕ, Bool, true, false, not, ◌==◌, ◌&&◌, ◌||◌, [], ◌∷◌, codes}
use Rattle.std.specs.Char.{is_ascii_alphabetic, is_ascii_alphanumeric, is_ascii_digit, char_set_contains}
use Rattle.std.specs.{Int.{is_in_range}, List.{list_all}}
use Rattle.iref_grammar.specs.{Grammar.{colon, full_stop}, Rules.{Text, Rule, OneOf, Optional, ZeroOrMore, ◌⨾◌}}
use Rattle.iref_grammar.specs.{Tests.{in_utf8}, Texts.{is_empty, lacks}}
use Rattle.iref.specs.declared.compact.label.Labels.{Labels}
use Rattle.iref.specs.declared.compact.label.Labels.TheVariants.{Ascii, Turtle, Any}

-- an ASCII letter, then ASCII letters, digits, `-` and `_`
abbrev pub is_label_char : ℕ → Bool
is_label_char c = is_ascii_alphanumeric c || char_set_contains (codes "-_") c

unfoldable pub is_ascii_label : Text → Bool
is_ascii_label [] = false
is_ascii_label (c ∷ cs) = is_ascii_alphabetic c && list_all is_label_char cs

-- ---- the grammar of Turtle (RDF 1.1 Turtle, section 6.5)

-- `PN_CHARS_BASE`
abbrev pub is_pn_chars_base : ℕ → Bool
is_pn_chars_base c =
    is_ascii_alphabetic c || is_in_range 0xC0 0xD6 c || is_in_range 0xD8 0xF6 c || is_in_range 0xF8 0x2FF c
    || is_in_range 0x370 0x37D c || is_in_range 0x37F 0x1FFF c || is_in_range 0x200C 0x200D c || is_in_range 0x2070 0x218F c
    || is_in_range 0x2C00 0x2FEF c || is_in_range 0x3001 0xD7FF c || is_in_range 0xF900 0xFDCF c || is_in_range 0xFDF0 0xFFFD c
    || is_in_range 0x1_0000 0xE_FFFF c

-- `PN_CHARS`: those, `_`, `-`, digits, and marks
abbrev pub is_pn_chars : ℕ → Bool
is_pn_chars c =
    is_pn_chars_base c || char_set_contains (codes "_-") c || is_ascii_digit c || c == 0xB7 || is_in_range 0x300 0x36F c
    || is_in_range 0x203F 0x2040 c

abbrev pub is_pn_chars_or_dot : ℕ → Bool
is_pn_chars_or_dot c = is_pn_chars c || c == full_stop

-- `PN_PREFIX`: `PN_CHARS_BASE ((PN_CHARS | '.')* PN_CHARS)?`
abbrev pub IsPnPrefix : Rule
IsPnPrefix = OneOf is_pn_chars_base ⨾ Optional (ZeroOrMore (OneOf is_pn_chars_or_dot) ⨾ OneOf is_pn_chars)

-- what may follow the first character: each is in `PN_CHARS`, or a dot with another one behind it
unfoldable pub follow_pn_chars_base : Text → Bool
follow_pn_chars_base [] = true
follow_pn_chars_base (c ∷ cs) = (is_pn_chars c || (c == full_stop && not (is_empty cs))) && follow_pn_chars_base cs

-- the characters are in `PN_PREFIX`, or there are none
unfoldable pub is_turtle_label : Text → Bool
is_turtle_label [] = true
is_turtle_label (c ∷ cs) = is_pn_chars_base c && follow_pn_chars_base cs

-- ---- the rule of a table

abbrev pub is_label : Labels → Text → Bool
is_label Ascii label = is_ascii_label label
is_label Turtle label = in_utf8 is_turtle_label label
is_label Any label = lacks colon label

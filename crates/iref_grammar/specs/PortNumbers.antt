-- Ports and their numbers (RFC 3986 section 3.2.3).
use Rattle.std.specs.{Prelude.{ℕ, decimal, Option, None, Some, if◌then◌else◌}, Str.Parse.{digits_value}}
use Rattle.iref_grammar.specs.{Rules.{Text}, Texts.{is_empty}}

-- the number that a port's digits write, if it has any
abbrev pub port_value : Text → Option ℕ
port_value digits = if is_empty digits then None else Some (digits_value 10 digits)

-- a number as a port
abbrev pub port_text : ℕ → Text
port_text n = decimal n

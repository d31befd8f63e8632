-- How far a text was read as an address of a future version of IP in brackets (RFC 3986 section 3.2.2).
use Rattle.std.specs.Prelude.{ℕ, Bool, true, false, codes, [], ◌∷◌, ◌==◌, if◌then◌else◌}
use Rattle.std.specs.Char.{is_ascii_hexdigit, char_set_contains}
use Rattle.iref_grammar.specs.{Grammar.{full_stop, left_bracket, right_bracket, is_future_char}, Rules.{Text}}
use Rattle.iref_canonical.specs.declared.literal.Progress.{Progress}
use Rattle.iref_canonical.specs.declared.literal.Progress.TheVariants.{Nothing, Bracket, V, Version, Stop, Address, Whole, Other}

-- how far it is read after one more byte
abbrev pub after_byte : Progress → ℕ → Progress
after_byte Nothing b = if b == left_bracket then Bracket else Other
after_byte Bracket b = if char_set_contains (codes "vV") b then V else Other
after_byte V b = if is_ascii_hexdigit b then Version else Other
after_byte Version b = if is_ascii_hexdigit b then Version else (if b == full_stop then Stop else Other)
after_byte Stop b = if is_future_char b then Address else Other
after_byte Address b = if is_future_char b then Address else (if b == right_bracket then Whole else Other)
after_byte Whole b = Other
after_byte Other b = Other

abbrev pub is_whole : Progress → Bool
is_whole Whole = true
is_whole Nothing = false
is_whole Bracket = false
is_whole V = false
is_whole Version = false
is_whole Stop = false
is_whole Address = false
is_whole Other = false

-- all of it is read after these bytes, and nothing else
unfoldable pub is_read : Progress → Text → Bool
is_read progress [] = is_whole progress
is_read progress (b ∷ bs) = is_read (after_byte progress b) bs

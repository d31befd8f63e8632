-- The plain bytes: those that stand for themselves in a path, a query or a fragment, or begin one of the two, and those of common characters.
use Rattle.std.specs.Prelude.{ℕ, Bool, ◌==◌, ◌&&◌, ◌||◌, ◌/◌, ◌%◌, codes, slice_index, bit_and, bit_or, nat_lt, if◌then◌else◌}
use Rattle.std.specs.{Char.{is_ascii, is_ascii_alphanumeric, char_set_contains}, Int.{is_in_range}}
use Rattle.iref_grammar.specs.Grammar.{is_not_percent, percent_sign}
use Rattle.iref_parse.specs.declared.plain.Groups.{Groups}

-- a character of a URI's path, `?` or `#` (RFC 3986 section 3.3)
abbrev pub is_plain_byte : ℕ → Bool
is_plain_byte b = is_ascii b && (is_ascii_alphanumeric b || char_set_contains (codes "-._~!$&'()*+,;=:@/?#") b)

-- a character of a registered name (RFC 3986 section 3.2.2), which stands in each component
abbrev pub is_name_byte : ℕ → Bool
is_name_byte b = is_ascii b && (is_ascii_alphanumeric b || char_set_contains (codes "-._~!$&'()*+,;=") b)

-- a character of a path, or `/`
abbrev pub is_path_byte : ℕ → Bool
is_path_byte b = is_ascii b && (is_ascii_alphanumeric b || char_set_contains (codes "-._~!$&'()*+,;=:@/") b)

-- a byte with which a character from U+00C0 to U+D7FF begins in UTF-8
abbrev pub begins_common : ℕ → Bool
begins_common = is_in_range 0xC3 0xED

-- a byte of such a character
abbrev pub is_of_common : ℕ → Bool
is_of_common b = is_in_range 0x80 0xBF b || begins_common b

-- a plain byte, or one of such a character
abbrev pub is_common_byte : ℕ → Bool
is_common_byte b = is_plain_byte b || is_of_common b

-- an ASCII byte other than `%`
abbrev pub is_unescaped_byte : ℕ → Bool
is_unescaped_byte b = is_ascii b && is_not_percent b

-- 0 exactly if the byte is not `%`
abbrev pub percent_mark : ℕ → ℕ
percent_mark b = if b == percent_sign then 255 else 0

-- 0 exactly if it is an ASCII byte other than `%`
abbrev pub unescaped_mark : ℕ → ℕ
unescaped_mark b = bit_or (bit_and b 128) (percent_mark b)

-- a byte other than 0, 1 and `%`
abbrev pub is_kept_byte : ℕ → Bool
is_kept_byte b = nat_lt 1 b && is_not_percent b

-- 0 exactly if it is other than 0, 1 and `%`
abbrev pub kept_mark : ℕ → ℕ
kept_mark b = bit_or (if bit_and b 254 == 0 then 255 else 0) (percent_mark b)

-- the groups that both halves of b are in
abbrev pub other_groups : Groups → ℕ → ℕ
other_groups groups b = bit_and (slice_index groups.low (b % 16)) (slice_index groups.high (b / 16))

-- b is in no group
abbrev pub is_in_no_group : Groups → ℕ → Bool
is_in_no_group groups b = other_groups groups b == 0

-- The grammar of URIs and IRIs (RFC 3986 Appendix A, RFC 3987 section 2.2), each rule over the characters that set adds.
use Rattle.std.specs.Prelude.{ℕ, Bool, not, ◌||◌, ◌==◌, codes}
use Rattle.std.specs.Char.{is_ascii_alphabetic, is_ascii_alphanumeric, is_ascii_digit, is_ascii_hexdigit, char_set_contains}
use Rattle.iref_grammar.specs.Characters.{CharTests}
use Rattle.std.specs.Int.{is_in_range}
use Rattle.iref_grammar.specs.Rules.{Rule, Empty, Mark, Literal, OneOf, ◌⨾◌, ◌or◌, Optional, ZeroOrMore, OneOrMore, Between, Exactly, AtMost}

-- the characters that the rules name
abbrev pub hash_sign : ℕ
hash_sign = 35

abbrev pub percent_sign : ℕ
percent_sign = 37

abbrev pub full_stop : ℕ
full_stop = 46

abbrev pub slash : ℕ
slash = 47

abbrev pub colon : ℕ
colon = 58

abbrev pub question_mark : ℕ
question_mark = 63

abbrev pub at_sign : ℕ
at_sign = 64

abbrev pub left_bracket : ℕ
left_bracket = 91

abbrev pub right_bracket : ℕ
right_bracket = 93

-- section 2.3, and RFC 3987's `iunreserved`
abbrev pub is_unreserved : CharTests → ℕ → Bool
is_unreserved set c = is_ascii_alphanumeric c || char_set_contains (codes "-._~") c || set.extra c

-- section 2.2
abbrev pub is_sub_delim : ℕ → Bool
is_sub_delim c = char_set_contains (codes "!$&'()*+,;=") c

-- the characters that stand alone in reg-name, user info, segment, fragment and query (sections 3.2 to 3.5)
unfoldable pub is_reg_name_char : CharTests → ℕ → Bool
is_reg_name_char set c = is_unreserved set c || is_sub_delim c

unfoldable pub is_user_info_char : CharTests → ℕ → Bool
is_user_info_char set c = is_reg_name_char set c || c == colon

unfoldable pub is_path_char : CharTests → ℕ → Bool
is_path_char set c = is_user_info_char set c || c == at_sign

unfoldable pub is_fragment_char : CharTests → ℕ → Bool
is_fragment_char set c = is_path_char set c || c == slash || c == question_mark

unfoldable pub is_query_char : CharTests → ℕ → Bool
is_query_char set c = is_fragment_char set c || set.private c

-- section 2.1
abbrev pub IsPctEncoded : Rule
IsPctEncoded = Mark percent_sign ⨾ OneOf is_ascii_hexdigit ⨾ OneOf is_ascii_hexdigit

-- characters that pass the test, and escapes
abbrev pub IsEncoded : (ℕ → Bool) → Rule
IsEncoded test = ZeroOrMore (OneOf test or IsPctEncoded)

-- percent-encoded text: each `%` stands before two hexadecimal digits
abbrev pub is_not_percent : ℕ → Bool
is_not_percent c = not (c == percent_sign)

abbrev pub IsPctStr : Rule
IsPctStr = IsEncoded is_not_percent

-- section 3.1
abbrev pub is_scheme_char : ℕ → Bool
is_scheme_char c = is_ascii_alphanumeric c || char_set_contains (codes "+-.") c

abbrev pub IsScheme : Rule
IsScheme = OneOf is_ascii_alphabetic ⨾ ZeroOrMore (OneOf is_scheme_char)

-- section 3.2.1
abbrev pub IsUserInfo : CharTests → Rule
IsUserInfo set = IsEncoded (is_user_info_char set)

-- section 3.2.2
abbrev pub IsRegName : CharTests → Rule
IsRegName set = IsEncoded (is_reg_name_char set)

-- IP literals stay ASCII
abbrev pub is_future_char : ℕ → Bool
is_future_char c = is_ascii_alphanumeric c || char_set_contains (codes "-._~") c || is_sub_delim c || c == colon

abbrev pub IsIpvFuture : Rule
IsIpvFuture = OneOf (char_set_contains (codes "vV")) ⨾ OneOrMore (OneOf is_ascii_hexdigit) ⨾ Mark full_stop ⨾ OneOrMore (OneOf is_future_char)

-- `dec-octet`
unfoldable pub IsDecOctet : Rule
IsDecOctet =
    OneOf is_ascii_digit
    or OneOf (is_in_range 0x31 0x39) ⨾ OneOf is_ascii_digit
    or Literal (codes "1") ⨾ Exactly 2 (OneOf is_ascii_digit)
    or Literal (codes "2") ⨾ OneOf (is_in_range 0x30 0x34) ⨾ OneOf is_ascii_digit
    or Literal (codes "25") ⨾ OneOf (is_in_range 0x30 0x35)

unfoldable pub IsIpv4Address : Rule
IsIpv4Address = IsDecOctet ⨾ Mark full_stop ⨾ IsDecOctet ⨾ Mark full_stop ⨾ IsDecOctet ⨾ Mark full_stop ⨾ IsDecOctet

-- `h16`: a group of 16 bits
unfoldable pub IsH16 : Rule
IsH16 = Between 1 4 (OneOf is_ascii_hexdigit)

-- `ls32`: the least significant 32 bits
unfoldable pub IsLs32 : Rule
IsLs32 = IsH16 ⨾ Mark colon ⨾ IsH16 or IsIpv4Address

-- `h16 ":"`
abbrev pub IsH16Colon : Rule
IsH16Colon = IsH16 ⨾ Mark colon

abbrev pub IsDoubleColon : Rule
IsDoubleColon = Literal (codes "::")

unfoldable pub IsIpv6Address : Rule
IsIpv6Address =
    Exactly 6 IsH16Colon ⨾ IsLs32
    or IsDoubleColon ⨾ Exactly 5 IsH16Colon ⨾ IsLs32
    or Optional IsH16 ⨾ IsDoubleColon ⨾ Exactly 4 IsH16Colon ⨾ IsLs32
    or Optional (AtMost 1 IsH16Colon ⨾ IsH16) ⨾ IsDoubleColon ⨾ Exactly 3 IsH16Colon ⨾ IsLs32
    or Optional (AtMost 2 IsH16Colon ⨾ IsH16) ⨾ IsDoubleColon ⨾ Exactly 2 IsH16Colon ⨾ IsLs32
    or Optional (AtMost 3 IsH16Colon ⨾ IsH16) ⨾ IsDoubleColon ⨾ IsH16Colon ⨾ IsLs32
    or Optional (AtMost 4 IsH16Colon ⨾ IsH16) ⨾ IsDoubleColon ⨾ IsLs32
    or Optional (AtMost 5 IsH16Colon ⨾ IsH16) ⨾ IsDoubleColon ⨾ IsH16
    or Optional (AtMost 6 IsH16Colon ⨾ IsH16) ⨾ IsDoubleColon

abbrev pub IsIpLiteral : Rule
IsIpLiteral = Mark left_bracket ⨾ (IsIpv6Address or IsIpvFuture) ⨾ Mark right_bracket

abbrev pub IsHost : CharTests → Rule
IsHost set = IsIpLiteral or IsIpv4Address or IsRegName set

-- section 3.2.3
abbrev pub IsPort : Rule
IsPort = ZeroOrMore (OneOf is_ascii_digit)

-- section 3.2
abbrev pub IsAuthority : CharTests → Rule
IsAuthority set = Optional (IsUserInfo set ⨾ Mark at_sign) ⨾ IsHost set ⨾ Optional (Mark colon ⨾ IsPort)

-- section 3.3
abbrev pub IsPathChar : CharTests → Rule
IsPathChar set = OneOf (is_path_char set) or IsPctEncoded

abbrev pub IsSegment : CharTests → Rule
IsSegment set = ZeroOrMore (IsPathChar set)

abbrev pub IsNonEmptySegment : CharTests → Rule
IsNonEmptySegment set = OneOrMore (IsPathChar set)

-- `1*( unreserved / pct-encoded / sub-delims / "@" )`
abbrev pub IsNonColonSegment : CharTests → Rule
IsNonColonSegment set = OneOrMore (OneOf (λ c. is_reg_name_char set c || c == at_sign) or IsPctEncoded)

abbrev pub IsAbEmptyPath : CharTests → Rule
IsAbEmptyPath set = ZeroOrMore (Mark slash ⨾ IsSegment set)

abbrev pub IsRootlessPath : CharTests → Rule
IsRootlessPath set = IsNonEmptySegment set ⨾ IsAbEmptyPath set

abbrev pub IsNoSchemePath : CharTests → Rule
IsNoSchemePath set = IsNonColonSegment set ⨾ IsAbEmptyPath set

abbrev pub IsAbsolutePath : CharTests → Rule
IsAbsolutePath set = Mark slash ⨾ Optional (IsRootlessPath set)

-- what the type `Path` holds: any text of path characters and `/`
abbrev pub IsPath : CharTests → Rule
IsPath set = ZeroOrMore (IsPathChar set or Mark slash)

-- sections 3.4 and 3.5
abbrev pub IsQuery : CharTests → Rule
IsQuery set = IsEncoded (is_query_char set)

abbrev pub IsFragment : CharTests → Rule
IsFragment set = IsEncoded (is_fragment_char set)

-- sections 3 and 4.2: what follows the scheme, and what stands where there is none
abbrev pub IsNetPath : CharTests → Rule
IsNetPath set = Mark slash ⨾ Mark slash ⨾ IsAuthority set ⨾ IsAbEmptyPath set

abbrev pub IsHierPart : CharTests → Rule
IsHierPart set = IsNetPath set or IsAbsolutePath set or IsRootlessPath set or Empty

abbrev pub IsRelativePart : CharTests → Rule
IsRelativePart set = IsNetPath set or IsAbsolutePath set or IsNoSchemePath set or Empty

abbrev pub IsQueryAndFragment : CharTests → Rule
IsQueryAndFragment set = Optional (Mark question_mark ⨾ IsQuery set) ⨾ Optional (Mark hash_sign ⨾ IsFragment set)

-- section 3
abbrev pub IsUri : CharTests → Rule
IsUri set = IsScheme ⨾ Mark colon ⨾ IsHierPart set ⨾ IsQueryAndFragment set

-- section 4.1
abbrev pub IsUriReference : CharTests → Rule
IsUriReference set = IsUri set or IsRelativePart set ⨾ IsQueryAndFragment set

-- The rules of the grammar as tests of bytes that compute. Rules of ASCII alone are tested on bytes and on characters by one test.
use Rattle.std.specs.Prelude.{◌≡◌, ℕ, ◌<◌, length, MatchOption, ◌-◌, nat_lt, Bool, true, false, ◌&&◌, ◌||◌, not, ◌==◌, [], ◌∷◌, Option, Some}
use Rattle.std.specs.{Prelude.{None, is_some, chars, if◌then◌else◌, codes}, Borrow.{Bor}, List.{list_all}}
use Rattle.std.specs.{Str.{is_utf8}, Char.{is_ascii_alphabetic, is_ascii_digit, is_ascii_hexdigit, char_set_contains}}
use Rattle.iref_grammar.specs.{Characters.{CharTests}, Rules.{Text}, Texts.{before, after, is_empty}}
use Rattle.iref_grammar.specs.IpAddresses.{ipv4_value, ipv6_value}
use Rattle.iref_grammar.specs.Grammar.{percent_sign, is_not_percent, full_stop, slash, left_bracket, right_bracket, is_scheme_char}
use Rattle.iref_grammar.specs.Grammar.{is_user_info_char, is_reg_name_char, is_future_char, is_path_char, is_query_char, is_fragment_char}

-- of a text with escapes: how many hexadecimal digits are owed after one more character, if it may stand there
unfoldable pub owed_after : (ℕ → Bool) → ℕ → ℕ → Option ℕ
owed_after test owed c =
    if nat_lt 0 owed
    then (if is_ascii_hexdigit c then Some (owed - 1) else None)
    else (if c == percent_sign then Some 2 else (if test c then Some 0 else None))

-- the owed digits, and then characters that pass the test, and escapes
abbrev pub is_encoded_after : (ℕ → Bool) → Option ℕ → Text → Bool
is_encoded_after test None text = false
is_encoded_after test (Some owed) [] = owed == 0
is_encoded_after test (Some owed) (c ∷ cs) = is_encoded_after test (owed_after test owed c) cs

-- characters that pass the test, and escapes: `IsEncoded`
abbrev pub is_encoded : (ℕ → Bool) → Text → Bool
is_encoded test text = is_encoded_after test (Some 0) text

-- a step of a scan: after it the shorter rest decides, with what is owed then; where there is no rest, the text is refused
abbrev pub ScansTo : (ℕ → Bool) → ℕ → ℕ → Text → Option (Bor Text) → Type 0
ScansTo test owed left text result =
    MatchOption result (is_encoded_after test (Some owed) (chars text) ≡ false)
    (λ rest. (is_encoded_after test (Some owed) (chars text) ≡ is_encoded_after test (Some left) (chars rest.now)) × (length rest.now < length text))

-- the bytes are the UTF-8 of a text that passes
abbrev pub in_utf8 : (Text → Bool) → Text → Bool
in_utf8 test bytes = is_utf8 bytes && test (chars bytes)

-- section 2.1: each `%` has two hexadecimal digits after it
unfoldable pub is_pct_str : Text → Bool
is_pct_str bytes = in_utf8 (is_encoded is_not_percent) bytes

-- section 3.1: a letter, then letters, digits, `+`, `-` and `.`
unfoldable pub is_scheme : Text → Bool
is_scheme [] = false
is_scheme (c ∷ cs) = is_ascii_alphabetic c && list_all is_scheme_char cs

-- section 3.2.3: digits
unfoldable pub is_port : Text → Bool
is_port text = list_all is_ascii_digit text

-- sections 3.2.1 and 3.2.2
unfoldable pub is_user_info : CharTests → Text → Bool
is_user_info set bytes = in_utf8 (is_encoded (is_user_info_char set)) bytes

unfoldable pub is_reg_name : CharTests → Text → Bool
is_reg_name set bytes = in_utf8 (is_encoded (is_reg_name_char set)) bytes

-- section 3.2.2: IP addresses, an IPv6 address without its brackets
unfoldable pub is_ipv4 : Text → Bool
is_ipv4 text = is_some (ipv4_value text)

abbrev pub is_ipv6 : Text → Bool
is_ipv6 text = is_some (ipv6_value text)

-- what stands before the first `.` after the `v`, and what follows it
abbrev pub is_future_version : Text → Bool
is_future_version version = not (is_empty version) && list_all is_ascii_hexdigit version

abbrev pub is_future_address : Option Text → Bool
is_future_address None = false
is_future_address (Some address) = not (is_empty address) && list_all is_future_char address

-- section 3.2.2: an address of a version to come, without its brackets
unfoldable pub is_ipvfuture : Text → Bool
is_ipvfuture [] = false
is_ipvfuture (c ∷ cs) =
    char_set_contains (codes "vV") c && is_future_version (before (full_stop ∷ []) cs) && is_future_address (after full_stop cs)

-- there is a value, and it passes
abbrev pub some_and : {A : Type 0} → (A → Bool) → Option A → Bool
some_and test None = false
some_and test (Some x) = test x

-- there is none, or it passes
abbrev pub none_or : {A : Type 0} → (A → Bool) → Option A → Bool
none_or test None = true
none_or test (Some x) = test x

-- the delimiter is there, and nothing follows it
abbrev pub ends_here : Option Text → Bool
ends_here rest = some_and is_empty rest

-- what stands between brackets that begin and end the text, where no `]` is between
abbrev pub in_brackets : Text → Option Text
in_brackets [] = None
in_brackets (c ∷ cs) = if c == left_bracket && ends_here (after right_bracket cs) then Some (before (right_bracket ∷ []) cs) else None

-- section 3.2.2: what may stand in brackets; an address in brackets; a host, where an IPv4 address is a registered name too
abbrev pub is_ip_address : Text → Bool
is_ip_address address = is_ipv6 address || is_ipvfuture address

unfoldable pub is_ip_literal : Text → Bool
is_ip_literal text = some_and is_ip_address (in_brackets text)

unfoldable pub is_host : CharTests → Text → Bool
is_host set bytes = is_ip_literal bytes || is_reg_name set bytes

-- sections 3.3 to 3.5
unfoldable pub is_segment : CharTests → Text → Bool
is_segment set bytes = in_utf8 (is_encoded (is_path_char set)) bytes

unfoldable pub is_path : CharTests → Text → Bool
is_path set bytes = in_utf8 (is_encoded (λ c. is_path_char set c || c == slash)) bytes

unfoldable pub is_query : CharTests → Text → Bool
is_query set bytes = in_utf8 (is_encoded (is_query_char set)) bytes

unfoldable pub is_fragment : CharTests → Text → Bool
is_fragment set bytes = in_utf8 (is_encoded (is_fragment_char set)) bytes

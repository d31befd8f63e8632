-- IPv4 and IPv6 addresses, with the numbers that they stand for (RFC 3986 section 3.2.2), and the same as tests.
use Rattle.std.specs.Prelude.{◌≡◌, ℕ, ◌+◌, ◌-◌, ◌*◌, ◌/◌, ◌%◌, ◌<◌, ◌≤◌, ◌&&◌, ◌⊎◌, List, [], ◌∷◌, ◌++◌, length, replicate, fold, decimal, true}
use Rattle.std.specs.Prelude.{bytes_eq, codes, drop, map, Option, Some, None, option_map, option_and_then, not, nat_lt, nat_le, ◌==◌}
use Rattle.std.specs.{Prelude.{if◌then◌else◌}, List.{AllZip, join_with_byte, list_all}, Option.{option_or}}
use Rattle.std.specs.{Char.{is_ascii_hexdigit}, Str.Parse.{digits_value}}
use Rattle.iref_grammar.specs.{Rules.{Text}, Texts.{pieces_at, is_empty, begins_with}}

-- the number that has these digits in this base, the highest first
abbrev pub number_of : ℕ → List ℕ → ℕ
number_of base parts = fold (λ n part. base * n + part) 0 parts

-- four numbers below 256 in decimal digits without leading zeros, with `.` between
pub record IsIpv4 (text : Text) (n : ℕ) : Type 0 where
  pub a : ℕ
  pub b : ℕ
  pub c : ℕ
  pub d : ℕ
  pub in_range : (a < 256) × (b < 256) × (c < 256) × (d < 256)
  pub spelled : text ≡ join_with_byte 46 (decimal a ∷ decimal b ∷ decimal c ∷ decimal d ∷ [])
  pub value : n ≡ number_of 256 (a ∷ b ∷ c ∷ d ∷ [])

-- one to four hexadecimal digits
pub record IsGroup (text : Text) (n : ℕ) : Type 0 where
  pub nonempty : 0 < length text
  pub short : length text ≤ 4
  pub digits : list_all is_ascii_hexdigit text ≡ true
  pub value : n ≡ digits_value 16 text

-- groups with `:` between; none is the empty text
abbrev pub AreGroups : Text → List ℕ → Type 0
AreGroups text groups = (pieces : List Text) × AllZip IsGroup pieces groups × (text ≡ join_with_byte 58 pieces)

-- groups, of which the last two are written as an IPv4 address
pub record EndInIpv4 (text : Text) (groups : List ℕ) : Type 0 where
  pub pieces : List Text
  pub front : List ℕ
  pub last : Text
  pub n : ℕ
  pub groups_before : AllZip IsGroup pieces front
  pub ipv4 : IsIpv4 last n
  pub spelled : text ≡ join_with_byte 58 (pieces ++ last ∷ [])
  pub value : groups ≡ front ++ n / 65536 ∷ n % 65536 ∷ []

abbrev pub AreLastGroups : Text → List ℕ → Type 0
AreLastGroups text groups = AreGroups text groups ⊎ EndInIpv4 text groups

-- left and right with zeros between, eight in all
abbrev pub filled_groups : List ℕ → List ℕ → List ℕ
filled_groups left right = left ++ replicate (8 - length left - length right) 0 ++ right

-- groups, `::`, groups; seven of them at most
pub record IsShortIpv6 (text : Text) (groups : List ℕ) : Type 0 where
  pub before : Text
  pub after : Text
  pub left : List ℕ
  pub right : List ℕ
  pub left_groups : AreGroups before left
  pub right_groups : AreLastGroups after right
  pub few : length left + length right ≤ 7
  pub spelled : text ≡ before ++ codes "::" ++ after
  pub value : groups ≡ filled_groups left right

-- eight groups without `::`
abbrev pub IsFullIpv6 : Text → List ℕ → Type 0
IsFullIpv6 text groups = AreLastGroups text groups × (length groups ≡ 8)

-- eight groups, in full or with `::`, and their number
abbrev pub IsIpv6 : Text → ℕ → Type 0
IsIpv6 text n = (groups : List ℕ) × (IsFullIpv6 text groups ⊎ IsShortIpv6 text groups) × (n ≡ number_of 65536 groups)

-- ---- the same, computed

-- what each piece stands for, if each stands for something
abbrev pub all_some : {A : Type 0} → List (Option A) → Option (List A)
all_some [] = Some []
all_some (o ∷ os) = option_and_then (λ x. option_map (λ xs. x ∷ xs) (all_some os)) o

-- of a decimal number below 256 without leading zeros
abbrev pub octet_value : Text → Option ℕ
octet_value text = if nat_lt (digits_value 10 text) 256 && bytes_eq text (decimal (digits_value 10 text)) then Some (digits_value 10 text) else None

-- what the pieces between `.` stand for
abbrev pub octet_values : Text → Option (List ℕ)
octet_values text = all_some (map octet_value (pieces_at 46 text))

abbrev pub four_octets : List ℕ → Option ℕ
four_octets octets = if length octets == 4 then Some (number_of 256 octets) else None

-- the number of an IPv4 address
unfoldable pub ipv4_value : Text → Option ℕ
ipv4_value text = option_and_then four_octets (octet_values text)

-- of one to four hexadecimal digits
abbrev pub group_value : Text → Option ℕ
group_value text =
    if not (is_empty text) && nat_le (length text) 4 && list_all is_ascii_hexdigit text then Some (digits_value 16 text) else None

-- one group, or the two of an IPv4 address
abbrev pub one_group : Text → Option (List ℕ)
one_group text = option_map (λ n. n ∷ []) (group_value text)

abbrev pub last_group_values : Text → Option (List ℕ)
last_group_values text = option_or (one_group text) (option_map (λ n. n / 65536 ∷ n % 65536 ∷ []) (ipv4_value text))

-- the pieces as groups, and the last as it is read
abbrev pub groups_then : (Text → Option (List ℕ)) → List Text → Option (List ℕ)
groups_then last [] = Some []
groups_then last (piece ∷ pieces) =
    if is_empty pieces
    then last piece
    else option_and_then (λ n. option_map (λ ns. n ∷ ns) (groups_then last pieces)) (group_value piece)

-- of these pieces, the last of which may be an IPv4 address
abbrev pub last_groups_of : List Text → Option (List ℕ)
last_groups_of pieces = groups_then last_group_values pieces

-- the pieces between `:`, of which the empty text has none
abbrev pub group_pieces : Text → List Text
group_pieces text = if is_empty text then [] else pieces_at 58 text

-- what stands before and after the first `::`
abbrev pub around_double_colon : Text → Option (Text × Text)
around_double_colon [] = None
around_double_colon (c ∷ cs) =
    if begins_with (codes "::") (c ∷ cs) then Some ([], drop 1 cs) else option_map (λ p. (c ∷ p.0, p.1)) (around_double_colon cs)

-- eight groups without `::`
abbrev pub eight_groups : List ℕ → Option (List ℕ)
eight_groups groups = if length groups == 8 then Some groups else None

-- seven at most, with zeros between
abbrev pub joined_groups : List ℕ → List ℕ → Option (List ℕ)
joined_groups left right = if nat_le (length left + length right) 7 then Some (filled_groups left right) else None

-- of what stands before and after `::`
abbrev pub short_ipv6_groups : Text × Text → Option (List ℕ)
short_ipv6_groups parts =
    option_and_then (λ left. option_and_then (joined_groups left) (last_groups_of (group_pieces parts.1)))
    (all_some (map group_value (group_pieces parts.0)))

-- the eight groups of an IPv6 address
abbrev pub ipv6_groups : Text → Option (List ℕ)
ipv6_groups text = elim (around_double_colon text) [
  | None ↦ option_and_then eight_groups (last_groups_of (group_pieces text))
  | Some parts ↦ short_ipv6_groups parts
]

-- the number of an IPv6 address
unfoldable pub ipv6_value : Text → Option ℕ
ipv6_value text = option_map (number_of 65536) (ipv6_groups text)

-- IPv6 addresses, byte by byte. The room is how many groups may follow the one that is read, of which there are some digits. A group is the text from its first byte on.
use Rattle.std.specs.Prelude.{ℕ, ◌+◌, ◌-◌, ◌*◌, Bool, true, false, not, ◌&&◌, ◌||◌, ◌==◌, nat_lt, [], ◌∷◌, if◌then◌else◌}
use Rattle.std.specs.Char.{is_ascii_digit, is_ascii_hexdigit}
use Rattle.iref_grammar.specs.{Rules.{Text}, Texts.{is_empty}}

-- the rest of an octet, which has digits if it is begun, and this number of further octets to the end
abbrev pub ends_in_octets : ℕ → Bool → ℕ → Text → Bool
ends_in_octets room begun octet [] = room == 0 && begun
ends_in_octets room begun octet (c ∷ cs) =
    if is_ascii_digit c
    then not (begun && octet == 0) && (nat_lt (octet * 10 + (c - 48)) 256 && ends_in_octets room true (octet * 10 + (c - 48)) cs)
    else c == 46 && (begun && (nat_lt 0 room && ends_in_octets (room - 1) false 0 cs))

-- digits and groups to the end, the last two of which may be an IPv4 address
abbrev pub ends_in_groups : ℕ → Text → ℕ → Text → Bool
ends_in_groups room group digits [] = nat_lt 0 digits
ends_in_groups room group digits (c ∷ cs) =
    if is_ascii_hexdigit c
    then nat_lt digits 4 && ends_in_groups room group (digits + 1) cs
    else (if c == 58 then nat_lt 0 digits && (nat_lt 0 room && ends_in_groups (room - 1) cs 0 cs) else c == 46 && (nat_lt 0 room && ends_in_octets 3 false 0 group))

-- nothing or groups, as many as there is room for
abbrev pub is_after_gap : ℕ → Text → Bool
is_after_gap room text = is_empty text || (nat_lt 0 room && ends_in_groups (room - 1) text 0 text)

-- digits and groups to the end, where they fill the room, or to `::`, of which the first `:` ended a group
abbrev pub has_groups : ℕ → Text → ℕ → Text → Bool
has_groups room group digits [] = room == 0 && nat_lt 0 digits
has_groups room group digits (c ∷ cs) =
    if is_ascii_hexdigit c
    then nat_lt digits 4 && has_groups room group (digits + 1) cs
    else
    (if c == 58
    then (if nat_lt 0 digits then nat_lt 0 room && has_groups (room - 1) cs 0 cs else nat_lt room 7 && is_after_gap room cs)
    else c == 46 && (room == 1 && ends_in_octets 3 false 0 group))

-- `::` first
abbrev pub opens_with_gap : Text → Bool
opens_with_gap [] = false
opens_with_gap (a ∷ []) = false
opens_with_gap (a ∷ b ∷ cs) = a == 58 && (b == 58 && is_after_gap 7 cs)

abbrev pub is_scanned_ipv6 : Text → Bool
is_scanned_ipv6 text = has_groups 7 text 0 text || opens_with_gap text

-- Hosts and their numbers (RFC 5952 section 4 in part).
use Rattle.std.specs.Prelude.{ℕ, ◌+◌, ◌/◌, ◌%◌, ◌^◌, false, ◌==◌, nat_lt, nat_le, List, [], ◌∷◌, ◌++◌, take, drop, map, decimal, codes, Option, option_and_then, if◌then◌else◌}
use Rattle.std.specs.{List.{join_with_byte, prefix_len}, Fmt.{digits}}
use Rattle.iref_grammar.specs.{Rules.{Text}, IpAddresses.{ipv6_value}, Tests.{in_brackets}, Texts.{greatest}}

-- the octets of a 32-bit number, and the groups of a 128-bit one
abbrev pub octets_of : ℕ → List ℕ
octets_of n = n / 2 ^ 24 ∷ n / 2 ^ 16 % 256 ∷ n / 2 ^ 8 % 256 ∷ n % 256 ∷ []

abbrev pub groups_of : ℕ → List ℕ
groups_of n =
    n / 2 ^ 112 ∷ n / 2 ^ 96 % 65536 ∷ n / 2 ^ 80 % 65536 ∷ n / 2 ^ 64 % 65536
    ∷ n / 2 ^ 48 % 65536 ∷ n / 2 ^ 32 % 65536 ∷ n / 2 ^ 16 % 65536 ∷ n % 65536 ∷ []

-- `HostBuf::from_ipv4`
abbrev pub ipv4_text : ℕ → Text
ipv4_text n = join_with_byte 46 (map decimal (octets_of n))

-- lower-case groups without leading zeros, with `:` between
abbrev pub groups_text : List ℕ → Text
groups_text groups = join_with_byte 58 (map (digits 16 false) groups)

-- how many zero groups stand at the front of each ending of the list, and the longest of these runs
abbrev pub zero_runs : List ℕ → List ℕ
zero_runs [] = []
zero_runs (g ∷ gs) = prefix_len (λ n. n == 0) (g ∷ gs) ∷ zero_runs gs

abbrev pub longest_run : List ℕ → ℕ
longest_run groups = greatest (zero_runs groups)

-- where the first of the longest runs begins
abbrev pub run_start : List ℕ → ℕ
run_start groups = prefix_len (λ run. nat_lt run (longest_run groups)) (zero_runs groups)

-- the first longest run of at least two zero groups is `::`
abbrev pub ipv6_text : List ℕ → Text
ipv6_text groups =
    if nat_le 2 (longest_run groups)
    then groups_text (take (run_start groups) groups) ++ codes "::" ++ groups_text (drop (run_start groups + longest_run groups) groups)
    else groups_text groups

-- `HostBuf::from_ipv6`
abbrev pub ipv6_host_text : ℕ → Text
ipv6_host_text n = codes "[" ++ ipv6_text (groups_of n) ++ codes "]"

-- the number of an IPv6 address in brackets
abbrev pub literal_value : Text → Option ℕ
literal_value text = option_and_then ipv6_value (in_brackets text)

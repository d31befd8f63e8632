-- The hosts of numbers are hosts, and are read as these numbers.
use Rattle.std.proofs.Common.{◌≡◌, ℕ, ◌^◌, ◌<◌, true, ap, inl, inr, arith, Some, is_some}
use Rattle.iref_grammar.specs.{Characters.{CharTests, AreAboveAscii}, IpAddresses.{IsIpv4, ipv4_value}}
use Rattle.iref_grammar.specs.Tests.{is_host, is_ipv4}
use Rattle.iref_grammar.proofs.Ipv4Lemmas.{ipv4_value-complete}
use Rattle.iref_grammar.proofs.HostRuleLemmas.{Decides-is_ipv4_bytes, Decides-is_host}
use Rattle.iref_grammar.specs.HostNumbers.{ipv4_text}

spells_ipv4 : (n : ℕ) → n < 2 ^ 32 → IsIpv4 (ipv4_text n) n
spells_ipv4 n h = grind arith

pub ipv4_read_back : (n : ℕ) → n < 2 ^ 32 → ipv4_value (ipv4_text n) ≡ Some n
ipv4_read_back n h = ipv4_value-complete (ipv4_text n) n (spells_ipv4 n h)

-- an IPv4 address is a host
pub ipv4_host : (set : CharTests) → AreAboveAscii set → (n : ℕ) → n < 2 ^ 32 → is_host set (ipv4_text n) ≡ true
unfolding is_ipv4
ipv4_host set above n h =
    let text = ipv4_text n in
    let address = (Decides-is_ipv4_bytes text).0 (ap is_some (ipv4_read_back n h)) in
    (Decides-is_host set above text).1 (address.0, address.1, address.2, inr (inl address.3))

-- what is written is in its rule, and is read back
pub ruleset written = (ipv4_host, ipv4_read_back)

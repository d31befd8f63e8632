-- Worked rows of hosts and IP addresses, computed (RFC 3986 section 3.2.2).
use Prim.Native.String.{String}
use Rattle.std.specs.Prelude.{◌≡◌, ℕ, Bool, true, false, List, [], ◌∷◌, map, codes, Option, Some, None, refl}
use Rattle.std.specs.{Str.{is_utf8, chars}, Char.{encode_utf8}, Fmt.{digits}}
use Rattle.iref_grammar.specs.{Characters.{uri_chars, iri_chars}, Rules.{Text}, IpAddresses.{ipv4_value, ipv6_value}}
use Rattle.iref_grammar.specs.Grammar.{is_reg_name_char}
use Rattle.iref_grammar.specs.Tests.{owed_after, is_ipvfuture, is_ipv4, is_ip_literal, is_reg_name, is_host}
use Rattle.iref_grammar.proofs.Rows.{utf8}

-- text; whether it is the host of a URI, that of an IRI, an IP literal, an IPv4 address
abbrev hosts : List (String × Bool × Bool × Bool × Bool)
hosts =
    ("", true, true, false, false)
    ∷ ("host.org", true, true, false, false)
    ∷ ("%61uthority", true, true, false, false)
    ∷ ("a%2Fb!", true, true, false, false)
    ∷ ("é", false, true, false, false)
    ∷ ("127.0.0.1", true, true, false, true)
    ∷ ("255.255.255.255", true, true, false, true)
    ∷ ("256.0.0.1", true, true, false, false)
    ∷ ("01.2.3.4", true, true, false, false)
    ∷ ("1.2.3", true, true, false, false)
    ∷ ("[V1.x]", true, true, true, false)
    ∷ ("[vF.a:b]", true, true, true, false)
    ∷ ("[v1F.a:b]", true, true, true, false)
    ∷ ("[::]", true, true, true, false)
    ∷ ("[::127.0.0.1]", true, true, true, false)
    ∷ ("[::ffff:192.168.1.1]", true, true, true, false)
    ∷ ("[::FFFF:192.168.1.1]", true, true, true, false)
    ∷ ("[1:02:003:0004:5:6:255.0.0.1]", true, true, true, false)
    ∷ ("[1:2:3:4:5:6:7:8]", true, true, true, false)
    ∷ ("[1:2:3:4:5:6:7::]", true, true, true, false)
    ∷ ("[1:2:3:4:5:6:1.2.3.4]", true, true, true, false)
    ∷ ("[::2:3:4:5:6:1.2.3.4]", true, true, true, false)
    ∷ ("[::1:2:3:4:5:6:1.2.3.4]", false, false, false, false)
    ∷ ("[1:2:3:4:5:6:7:8::]", false, false, false, false)
    ∷ ("[1:2:3:4:5:6:7]", false, false, false, false)
    ∷ ("[::1.2.3.4:5]", false, false, false, false)
    ∷ ("[1.2.3.4::]", false, false, false, false)
    ∷ ("[::00001]", false, false, false, false)
    ∷ ("[::g]", false, false, false, false)
    ∷ ("[:::]", false, false, false, false)
    ∷ ("[1::2::3]", false, false, false, false)
    ∷ ("[v.x]", false, false, false, false)
    ∷ ("[v1.]", false, false, false, false)
    ∷ ("[v1.é]", false, false, false, false)
    ∷ ("[]", false, false, false, false)
    ∷ ("[::1", false, false, false, false)
    ∷ ("[::1]x", false, false, false, false)
    ∷ ("a:b", false, false, false, false)
    ∷ ("a@b", false, false, false, false)
    ∷ ("a%4", false, false, false, false)
    ∷ []

abbrev kinds : Text → Bool × Bool × Bool × Bool
kinds bytes = (is_host uri_chars bytes, is_host iri_chars bytes, is_ip_literal bytes, is_ipv4 bytes)

hosts_hold : map (λ row. kinds (utf8 row.0)) hosts ≡ map (λ row. (row.1, row.2, row.3, row.4)) hosts
unfolding is_host is_ip_literal is_ipvfuture is_ipv4 ipv4_value ipv6_value is_reg_name owed_after is_reg_name_char encode_utf8 is_utf8 chars digits
hosts_hold = refl

-- text; the number of the IPv4 address
abbrev ipv4_numbers : List (String × Option ℕ)
ipv4_numbers =
    ("127.0.0.1", Some 0x7f00_0001)
    ∷ ("0.0.0.0", Some 0)
    ∷ ("255.255.255.255", Some 0xffff_ffff)
    ∷ ("1.2.3.4", Some 0x0102_0304)
    ∷ ("256.0.0.1", None)
    ∷ ("01.2.3.4", None)
    ∷ ("1.2.3", None)
    ∷ ("1.2.3.4.5", None)
    ∷ ("1.2.3.", None)
    ∷ ("1.2.3.a", None)
    ∷ ("", None)
    ∷ []

ipv4_numbers_hold : map (λ row. ipv4_value (codes row.0)) ipv4_numbers ≡ map (λ row. row.1) ipv4_numbers
unfolding ipv4_value digits
ipv4_numbers_hold = refl

-- text; the number of the IPv6 address
abbrev ipv6_numbers : List (String × Option ℕ)
ipv6_numbers =
    ("::", Some 0)
    ∷ ("::1", Some 1)
    ∷ ("1::", Some 0x0001_0000_0000_0000_0000_0000_0000_0000)
    ∷ ("2001:DB8::7", Some 0x2001_0db8_0000_0000_0000_0000_0000_0007)
    ∷ ("::ffff:192.168.1.1", Some 0xffff_c0a8_0101)
    ∷ ("::FFFF:192.168.1.1", Some 0xffff_c0a8_0101)
    ∷ ("1:02:003:0004:5:6:255.0.0.1", Some 0x0001_0002_0003_0004_0005_0006_ff00_0001)
    ∷ ("::127.0.0.1", Some 0x7f00_0001)
    ∷ ("1:2:3:4:5:6:7::", Some 0x0001_0002_0003_0004_0005_0006_0007_0000)
    ∷ ("1::4:5:0:0:8", Some 0x0001_0000_0000_0004_0005_0000_0000_0008)
    ∷ ("1:2:3:4:5:6:0.7.0.8", Some 0x0001_0002_0003_0004_0005_0006_0007_0008)
    ∷ ("ffff:ffff:ffff:ffff:ffff:ffff:ffff:ffff", Some 0xffff_ffff_ffff_ffff_ffff_ffff_ffff_ffff)
    ∷ ("::1.2.3.4:5", None)
    ∷ ("1:2:3:4:5:6:7:8::", None)
    ∷ ("::00001", None)
    ∷ ("1:2:3:4:5:6:7:8:9", None)
    ∷ ("1:", None)
    ∷ (":1", None)
    ∷ ("", None)
    ∷ []

ipv6_numbers_hold : map (λ row. ipv6_value (codes row.0)) ipv6_numbers ≡ map (λ row. row.1) ipv6_numbers
unfolding ipv4_value ipv6_value digits
ipv6_numbers_hold = refl

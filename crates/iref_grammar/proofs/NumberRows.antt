-- Worked rows of hosts and ports from numbers, computed (RFC 5952 section 4).
use Prim.Native.String.{String}
use Rattle.std.specs.{Prelude.{◌≡◌, ℕ, List, [], ◌∷◌, map, codes, Option, Some, None, refl}, Fmt.{digits}}
use Rattle.iref_grammar.specs.{HostNumbers.{ipv4_text, ipv6_host_text}, PortNumbers.{port_value, port_text}}

-- number; the host of the IPv4 address
abbrev ipv4_hosts : List (ℕ × String)
ipv4_hosts =
    (0, "0.0.0.0")
    ∷ (1, "0.0.0.1")
    ∷ (0x0a00_64c8, "10.0.100.200")
    ∷ (0x7f00_0001, "127.0.0.1")
    ∷ (0x0102_0304, "1.2.3.4")
    ∷ (0xffff_ffff, "255.255.255.255")
    ∷ []

ipv4_hosts_hold : map (λ row. ipv4_text row.0) ipv4_hosts ≡ map (λ row. codes row.1) ipv4_hosts
unfolding digits
ipv4_hosts_hold = refl

-- number; the host of the IPv6 address (the last two are examples of RFC 5952 section 4.2.3)
abbrev ipv6_hosts : List (ℕ × String)
ipv6_hosts =
    (0, "[::]")
    ∷ (1, "[::1]")
    ∷ (0x0001_0000_0000_0000_0000_0000_0000_0000, "[1::]")
    ∷ (0xffff_c0a8_0101, "[::ffff:c0a8:101]")
    ∷ (0x2001_0db8_0000_0000_0000_0000_0002_0001, "[2001:db8::2:1]")
    ∷ (0x2001_0db8_0000_0000_0000_0000_0000_aaaa, "[2001:db8::aaaa]")
    ∷ (0x2001_0db8_0000_0001_0001_0001_0001_0001, "[2001:db8:0:1:1:1:1:1]")
    ∷ (0x0001_0000_0000_0004_0005_0000_0000_0008, "[1::4:5:0:0:8]")
    ∷ (0x0001_0000_0003_0004_0005_0006_0007_0008, "[1:0:3:4:5:6:7:8]")
    ∷ (0x0001_0002_0003_0004_0005_0006_0000_0000, "[1:2:3:4:5:6::]")
    ∷ (0x2001_0000_0000_0001_0000_0000_0000_0001, "[2001:0:0:1::1]")
    ∷ (0x2001_0db8_0000_0000_0001_0000_0000_0001, "[2001:db8::1:0:0:1]")
    ∷ []

ipv6_hosts_hold : map (λ row. ipv6_host_text row.0) ipv6_hosts ≡ map (λ row. codes row.1) ipv6_hosts
unfolding digits
ipv6_hosts_hold = refl

-- port; its number
abbrev port_values : List (String × Option ℕ)
port_values =
    ("", None)
    ∷ ("0", Some 0)
    ∷ ("7", Some 7)
    ∷ ("080", Some 80)
    ∷ ("127", Some 127)
    ∷ ("128", Some 128)
    ∷ ("256", Some 256)
    ∷ ("0300", Some 300)
    ∷ ("443", Some 443)
    ∷ ("40000", Some 40000)
    ∷ ("000000000000000000000000000000000000000000000080", Some 80)
    ∷ ("340282366920938463463374607431768211456", Some 0x1_0000_0000_0000_0000_0000_0000_0000_0000)
    ∷ []

port_values_hold : map (λ row. port_value (codes row.0)) port_values ≡ map (λ row. row.1) port_values
unfolding digits
port_values_hold = refl

-- number; its port
abbrev ports : List (ℕ × String)
ports =
    (0, "0")
    ∷ (7, "7")
    ∷ (80, "80")
    ∷ (0xffff_ffff_ffff_ffff_ffff_ffff_ffff_ffff, "340282366920938463463374607431768211455")
    ∷ []

ports_hold : map (λ row. port_text row.0) ports ≡ map (λ row. codes row.1) ports
unfolding digits
ports_hold = refl

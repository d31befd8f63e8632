-- Worked rows of the grammar: what it takes and refuses, computed.
use Prim.Native.String.{String}
use Rattle.std.specs.Prelude.{◌≡◌, ℕ, Bool, true, false, List, [], ◌∷◌, map, encode_utf8_all, refl}
use Rattle.std.specs.{Str.{is_utf8, chars}, Char.{encode_utf8}}
use Rattle.iref_grammar.specs.{Characters.{uri_chars, iri_chars}, Rules.{Text}, IpAddresses.{ipv4_value, ipv6_value}}
use Rattle.iref_grammar.specs.Grammar.{is_reg_name_char, is_user_info_char, is_path_char, is_fragment_char, is_query_char}
use Rattle.iref_grammar.specs.Tests.{owed_after, is_scheme, is_port, is_user_info, is_reg_name, is_ipvfuture, is_ip_literal, is_host, is_segment, is_path, is_query, is_fragment}
use Rattle.iref_grammar.specs.{Authority.{read_authority, has_authority_parts}, PathValue.{read_path}}
use Rattle.iref_grammar.specs.Reference.{read_reference, is_readable, is_reference, is_uri}
use Rattle.iref_grammar.proofs.Rows.{utf8}

-- ---- references

-- text; whether it is a URI, a URI reference, an IRI, an IRI reference (the first are examples of RFC 3986 sections 1.1.2 and 3)
abbrev references : List (String × Bool × Bool × Bool × Bool)
references =
    ("ftp://ftp.is.co.za/rfc/rfc1808.txt", true, true, true, true)
    ∷ ("http://www.ietf.org/rfc/rfc2396.txt", true, true, true, true)
    ∷ ("ldap://[2001:db8::7]/c=GB?objectClass?one", true, true, true, true)
    ∷ ("mailto:John.Doe@example.com", true, true, true, true)
    ∷ ("news:comp.infosystems.www.servers.unix", true, true, true, true)
    ∷ ("tel:+1-816-555-1212", true, true, true, true)
    ∷ ("telnet://192.0.2.16:80/", true, true, true, true)
    ∷ ("urn:oasis:names:specification:docbook:dtd:xml:4.1.2", true, true, true, true)
    ∷ ("foo://example.com:8042/over/there?name=ferret#nose", true, true, true, true)
    ∷ ("scheme:////", true, true, true, true)
    ∷ ("a+.-1:", true, true, true, true)
    ∷ ("http://", true, true, true, true)
    ∷ ("s:", true, true, true, true)
    ∷ ("urn:x", true, true, true, true)
    ∷ ("http://a/b?c#d", true, true, true, true)
    ∷ ("", false, true, false, true)
    ∷ ("/p", false, true, false, true)
    ∷ ("?s:", false, true, false, true)
    ∷ ("//h/?#", false, true, false, true)
    ∷ ("//user:1@host.org:80/a//b?#", false, true, false, true)
    ∷ ("//[V1.x]", false, true, false, true)
    ∷ ("a/:", false, true, false, true)
    ∷ ("a?b?c", false, true, false, true)
    ∷ ("http://a/é", false, false, true, true)
    ∷ ("urn:é", false, false, true, true)
    ∷ ("é", false, false, false, true)
    ∷ ("//é/?#", false, false, false, true)
    ∷ ("1:2", false, false, false, false)
    ∷ ("+:", false, false, false, false)
    ∷ (":", false, false, false, false)
    ∷ ("http://[::1", false, false, false, false)
    ∷ ("//[::1]x", false, false, false, false)
    ∷ ("//[fe80::%25en0]/", false, false, false, false)
    ∷ ("//a@b@c", false, false, false, false)
    ∷ ("//h:8x", false, false, false, false)
    ∷ ("//é:é", false, false, false, false)
    ∷ ("é:", false, false, false, false)
    ∷ ("a b", false, false, false, false)
    ∷ ("a#b#c", false, false, false, false)
    ∷ ("#a#", false, false, false, false)
    ∷ ("a%", false, false, false, false)
    ∷ ("a%4", false, false, false, false)
    ∷ ("a%4g", false, false, false, false)
    ∷ ("%%41", false, false, false, false)
    ∷ []

abbrev kinds : Text → Bool × Bool × Bool × Bool
kinds bytes =
    (is_uri uri_chars bytes, is_reference uri_chars bytes, is_uri iri_chars bytes, is_reference iri_chars bytes)

references_hold : map (λ row. kinds (utf8 row.0)) references ≡ map (λ row. (row.1, row.2, row.3, row.4)) references
unfolding is_uri is_reference is_readable read_reference read_authority read_path has_authority_parts encode_utf8 is_utf8 chars
    owed_after is_scheme is_host is_ip_literal is_ipvfuture ipv4_value ipv6_value is_reg_name is_user_info is_port is_segment is_query is_fragment
    is_reg_name_char is_user_info_char is_path_char is_fragment_char is_query_char
references_hold = refl

-- bytes; whether they are an IRI reference: a character cut off, a `/` in two bytes, a surrogate, `é`
abbrev bytes : List (Text × Bool)
bytes =
    (0x61 ∷ 0xC3 ∷ [], false)
    ∷ (0xC0 ∷ 0xAF ∷ [], false)
    ∷ (0xED ∷ 0xA0 ∷ 0x80 ∷ [], false)
    ∷ (0xC3 ∷ 0xA9 ∷ [], true)
    ∷ []

bytes_hold : map (λ row. is_reference iri_chars row.0) bytes ≡ map (λ row. row.1) bytes
unfolding is_reference is_readable read_reference read_path has_authority_parts encode_utf8 is_utf8 chars owed_after is_segment is_reg_name_char is_user_info_char is_path_char
bytes_hold = refl

-- ---- characters (RFC 3987 section 2.2)

-- the character; whether it may stand in an IRI's path, its user info, host, segments and fragment; and in its query
abbrev edges : List (ℕ × Bool × Bool)
edges =
    (0x7F, false, false)
    ∷ (0x9F, false, false)
    ∷ (0xA0, true, true)
    ∷ (0xD7FF, true, true)
    ∷ (0xE000, false, true)
    ∷ (0xF8FF, false, true)
    ∷ (0xF900, true, true)
    ∷ (0xFDCF, true, true)
    ∷ (0xFDD0, false, false)
    ∷ (0xFDEF, false, false)
    ∷ (0xFDF0, true, true)
    ∷ (0xFFEF, true, true)
    ∷ (0xFFF0, false, false)
    ∷ (0xFFFF, false, false)
    ∷ (0x1_0000, true, true)
    ∷ (0x1_FFFD, true, true)
    ∷ (0x1_FFFE, false, false)
    ∷ (0x1_FFFF, false, false)
    ∷ (0x2_0000, true, true)
    ∷ (0xD_FFFD, true, true)
    ∷ (0xD_FFFE, false, false)
    ∷ (0xE_0000, false, false)
    ∷ (0xE_0FFF, false, false)
    ∷ (0xE_1000, true, true)
    ∷ (0xE_FFFD, true, true)
    ∷ (0xE_FFFE, false, false)
    ∷ (0xF_0000, false, true)
    ∷ (0xF_FFFD, false, true)
    ∷ (0xF_FFFE, false, false)
    ∷ (0x10_0000, false, true)
    ∷ (0x10_FFFD, false, true)
    ∷ (0x10_FFFE, false, false)
    ∷ []

abbrev in_path_and_query : Text → Bool × Bool
in_path_and_query bytes = (is_path iri_chars bytes, is_query iri_chars bytes)

edges_hold : map (λ row. in_path_and_query (encode_utf8_all (row.0 ∷ []))) edges ≡ map (λ row. (row.1, row.2)) edges
unfolding is_path is_query encode_utf8 is_utf8 chars owed_after is_reg_name_char is_user_info_char is_path_char is_fragment_char is_query_char
edges_hold = refl

abbrev in_others : Text → Bool × Bool × Bool × Bool
in_others bytes = (is_user_info iri_chars bytes, is_host iri_chars bytes, is_segment iri_chars bytes, is_fragment iri_chars bytes)

other_edges_hold : map (λ row. in_others (encode_utf8_all (row.0 ∷ []))) edges ≡ map (λ row. (row.1, row.1, row.1, row.1)) edges
unfolding is_user_info is_host is_ip_literal is_ipvfuture ipv4_value ipv6_value is_reg_name is_segment is_fragment
    encode_utf8 is_utf8 chars owed_after is_reg_name_char is_user_info_char is_path_char is_fragment_char is_query_char
other_edges_hold = refl

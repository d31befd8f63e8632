-- Worked rows of the mapping of IRIs to URIs, computed.
use Prim.Native.String.{String}
use Rattle.std.specs.Prelude.{◌≡◌, Bool, ◌&&◌, true, false, List, [], ◌∷◌, ◌++◌, map, codes, refl}
use Rattle.std.specs.{Str.{is_utf8, chars}, Char.{encode_utf8}}
use Rattle.percent_encoding.specs.Percent.{percent_encode_byte, percent_decode}
use Rattle.iref_grammar.specs.{Characters.{uri_chars, iri_chars}, Rules.{Text}, IpAddresses.{ipv4_value, ipv6_value}}
use Rattle.iref_grammar.specs.Grammar.{is_reg_name_char, is_user_info_char, is_path_char, is_fragment_char, is_query_char}
use Rattle.iref_grammar.specs.Tests.{owed_after, is_scheme, is_port, is_user_info, is_reg_name, is_ipvfuture, is_ip_literal, is_host, is_segment, is_query, is_fragment}
use Rattle.iref_grammar.specs.{Authority.{read_authority, has_authority_parts}, PathValue.{read_path}}
use Rattle.iref_grammar.specs.Reference.{read_reference, is_readable, is_reference}
use Rattle.iref_grammar.specs.{NormalList.{normal_segments, excess, staying_names}, PathKey.{path_key}}
use Rattle.iref_grammar.specs.{Key.{key, key_cmp, are_alike}, Mapping.{mapped, mapped_chars}}
use Rattle.iref_grammar.proofs.Rows.{utf8}

-- an IRI reference; its mapping (the first three are examples of RFC 3987 section 3.1; U+E000 is private, U+10000 takes four bytes)
abbrev references : List (Text × String)
references =
    (utf8 "http://www.example.org/red%09rosé#red", "http://www.example.org/red%09ros%C3%A9#red")
    ∷ (utf8 "http://example.com/𐌀𐌁𐌂", "http://example.com/%F0%90%8C%80%F0%90%8C%81%F0%90%8C%82")
    ∷ (utf8 "http://résumé.example.org", "http://r%C3%A9sum%C3%A9.example.org")
    ∷ (utf8 "http://a/é?" ++ encode_utf8 0xE000 ++ utf8 "#ü", "http://a/%C3%A9?%EE%80%80#%C3%BC")
    ∷ (utf8 "//é@ö/" ++ encode_utf8 0x1_0000, "//%C3%A9@%C3%B6/%F0%90%80%80")
    ∷ (encode_utf8 0xA0 ++ encode_utf8 0xD7FF ++ encode_utf8 0xFFEF ++ encode_utf8 0xE_FFFD, "%C2%A0%ED%9F%BF%EF%BF%AF%F3%AF%BF%BD")
    ∷ (utf8 "?" ++ encode_utf8 0x10_FFFD, "?%F4%8F%BF%BD")
    ∷ (utf8 "http://a/%c3%a9", "http://a/%c3%a9")
    ∷ (utf8 "http://a/%c3é", "http://a/%c3%C3%A9")
    ∷ (utf8 "é/../%2E", "%C3%A9/../%2E")
    ∷ (utf8 "http://[::1]:80/~a?b#c", "http://[::1]:80/~a?b#c")
    ∷ (utf8 "", "")
    ∷ []

references_hold : map (λ row. mapped row.0) references ≡ map (λ row. codes row.1) references
unfolding mapped percent_encode_byte encode_utf8
references_hold = refl

-- the same in the words of the RFC
characters_hold : map (λ row. mapped_chars iri_chars (chars row.0)) references ≡ map (λ row. codes row.1) references
unfolding mapped_chars percent_encode_byte encode_utf8 chars
characters_hold = refl

-- each is an IRI reference, and its mapping a URI reference
abbrev becomes_a_uri : Text → Bool
becomes_a_uri text = is_reference iri_chars text && is_reference uri_chars (mapped text)

grammars_hold : map (λ row. becomes_a_uri row.0) references ≡ map (λ row. true) references
unfolding mapped percent_encode_byte is_reference is_readable read_reference read_authority read_path has_authority_parts encode_utf8 is_utf8 chars
    owed_after is_scheme is_host is_ip_literal is_ipvfuture ipv4_value ipv6_value is_reg_name is_user_info is_port is_segment is_query is_fragment
    is_reg_name_char is_user_info_char is_path_char is_fragment_char is_query_char
grammars_hold = refl

-- and they are equal
abbrev are_equal : Text → Text → Bool
are_equal r s = are_alike (read_reference r) (read_reference s)

keys_hold : map (λ row. are_equal row.0 (mapped row.0)) references ≡ map (λ row. true) references
unfolding mapped percent_encode_byte read_reference read_authority read_path normal_segments excess staying_names path_key key key_cmp percent_decode encode_utf8
keys_hold = refl

-- a character and its parts are not equal, nor are their mappings (RFC 3987 section 5.3.2.2)
abbrev whole : Text
whole = utf8 "http://www.example.org/résumé.html"

abbrev parted : Text
parted = utf8 "http://www.example.org/re" ++ encode_utf8 0x301 ++ utf8 "sume" ++ encode_utf8 0x301 ++ utf8 ".html"

parts_differ : are_equal whole parted ∷ are_equal (mapped whole) (mapped parted) ∷ [] ≡ false ∷ false ∷ []
unfolding mapped percent_encode_byte read_reference read_authority read_path normal_segments excess staying_names path_key key key_cmp percent_decode encode_utf8
parts_differ = refl

-- a private character stands in no path, and a character that the grammar does not add in no IRI
refused_hold : map (is_reference iri_chars) (encode_utf8 0xE000 ∷ (utf8 "?" ++ encode_utf8 0xFFFE) ∷ encode_utf8 0x80 ∷ []) ≡ false ∷ false ∷ false ∷ []
unfolding is_reference is_readable read_reference read_path has_authority_parts encode_utf8 is_utf8 chars owed_after is_segment is_query is_reg_name_char is_user_info_char is_path_char is_fragment_char is_query_char
refused_hold = refl

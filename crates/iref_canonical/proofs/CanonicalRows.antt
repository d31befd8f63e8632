-- Worked rows of canonical texts, computed.
use Prim.Native.String.{String}
use Rattle.std.specs.{Prelude.{◌≡◌, List, [], ◌∷◌, ◌++◌, map, codes, encode_utf8_all, refl}, Char.{encode_utf8}}
use Rattle.percent_encoding.specs.Percent.{percent_encode_byte, percent_decode}
use Rattle.iref_grammar.specs.{Rules.{Text}, IpAddresses.{ipv4_value, ipv6_value}}
use Rattle.iref_grammar.specs.Grammar.{is_reg_name_char, is_user_info_char, is_path_char, is_fragment_char, is_query_char}
use Rattle.iref_grammar.specs.{Tests.{is_ipvfuture, is_ip_literal}, Authority.{read_authority, spell_authority}}
use Rattle.iref_grammar.specs.{PathValue.{read_path, spell_path}, Reference.{read_reference, spell}}
use Rattle.iref_grammar.specs.{Guard.{guarded}, NormalList.{normal_segments, excess, staying_names}, PathKey.{path_key}}
use Rattle.iref_grammar.specs.Key.{key}
use Rattle.iref_canonical.specs.Canonical.{canonical_text, encoded, spelled, spelled_relative}

-- the canonical text of a text
abbrev canonical_of : Text → Text
canonical_of text = canonical_text (key (read_reference text))

-- the bytes of a quoted text
abbrev utf8 : String → Text
utf8 text = encode_utf8_all (codes text)

-- a reference; its canonical text
abbrev references : List (Text × String)
references =
    (utf8 "HTTP://a/%7Eb/./c", "http://a/~b/c")
    ∷ (utf8 "http://exa%6dple.org", "http://example.org")
    ∷ (utf8 "../x", "../x")
    ∷ (utf8 "%2E%2E/x", "../x")
    ∷ (utf8 "/%2E%2E/x", "/%2E%2E/x")
    ∷ (utf8 "a/%2e%2e/b", "a/%2E%2E/b")
    ∷ (utf8 "..", "../")
    ∷ (utf8 "%2e%2e", "%2E%2E")
    ∷ (utf8 "../%2E%2E", "../%2E%2E")
    ∷ (utf8 "/%2E", "/%2E")
    ∷ (utf8 "/.", "/")
    ∷ (utf8 ".", "")
    ∷ (utf8 "", "")
    ∷ (utf8 "//%5B%3A%3A1%5D/", "//[::1]/")
    ∷ (utf8 "//%5b%3a%3a%5d%3a", "//%5B%3A%3A%5D%3A")
    ∷ (utf8 "s:/a/..//b", "s:/.//b")
    ∷ (utf8 "a/..//b", ".//b")
    ∷ (utf8 "1%3A2", "./1:2")
    ∷ (utf8 "http:a/b/../../../", "http:../")
    ∷ (utf8 "?%2B+%20", "?++%20")
    ∷ (utf8 "http://u%40:p%3a@h:080/", "http://u%40:p:@h:080/")
    ∷ (utf8 "http://a/é?" ++ encode_utf8 0xE000 ++ utf8 "#ü", "http://a/%C3%A9?%EE%80%80#%C3%BC")
    ∷ (utf8 "%FF%2F", "%FF%2F")
    ∷ (utf8 "s:a%2Fb%3F%23", "s:a%2Fb%3F%23")
    ∷ (utf8 "http://a/%00?#", "http://a/%00?#")
    ∷ []

references_hold : map (λ row. canonical_of row.0) references ≡ map (λ row. codes row.1) references
unfolding read_reference read_authority read_path key path_key normal_segments excess staying_names percent_decode encode_utf8
    spelled encoded spelled_relative percent_encode_byte is_reg_name_char is_user_info_char is_path_char is_fragment_char is_query_char
    is_ip_literal is_ipvfuture ipv4_value ipv6_value guarded spell spell_authority spell_path
references_hold = refl

-- and each is its own canonical text
again_hold : map (λ row. canonical_of (codes row.1)) references ≡ map (λ row. codes row.1) references
unfolding read_reference read_authority read_path key path_key normal_segments excess staying_names percent_decode encode_utf8
    spelled encoded spelled_relative percent_encode_byte is_reg_name_char is_user_info_char is_path_char is_fragment_char is_query_char
    is_ip_literal is_ipvfuture ipv4_value ipv6_value guarded spell spell_authority spell_path
again_hold = refl

-- Worked rows of the texts of each rule: what it takes and refuses, computed.
use Prim.Native.String.{String}
use Rattle.std.specs.{Prelude.{◌≡◌, Bool, true, false, List, [], ◌∷◌, map, refl}, Str.{is_utf8, chars}}
use Rattle.std.specs.Char.{encode_utf8}
use Rattle.iref_grammar.specs.{Characters.{iri_chars}, Rules.{Text}, IpAddresses.{ipv4_value, ipv6_value}}
use Rattle.iref_grammar.specs.Grammar.{is_reg_name_char, is_user_info_char, is_path_char, is_fragment_char, is_query_char}
use Rattle.iref_grammar.specs.Tests.{owed_after, is_pct_str, is_scheme, is_port, is_user_info, is_reg_name, is_ipvfuture, is_ip_literal, is_host, is_segment, is_path, is_query, is_fragment}
use Rattle.iref_grammar.specs.Authority.{read_authority, has_authority_parts, is_authority}
use Rattle.iref_grammar.proofs.Rows.{utf8}

-- the rule, in IRIs; a text; whether it is one of the rule
abbrev texts : List ((Text → Bool) × String × Bool)
texts =
    (is_pct_str, "%41 b", true)
    ∷ (is_pct_str, "é", true)
    ∷ (is_pct_str, "%", false)
    ∷ (is_pct_str, "%4", false)
    ∷ (is_pct_str, "a%", false)
    ∷ (is_pct_str, "%4g", false)
    ∷ (is_pct_str, "%g4", false)
    ∷ (is_pct_str, "%%41", false)
    ∷ (is_pct_str, "a%4é", false)
    ∷ (is_scheme, "a", true)
    ∷ (is_scheme, "Z", true)
    ∷ (is_scheme, "HtTp", true)
    ∷ (is_scheme, "a1", true)
    ∷ (is_scheme, "x+y-z.9", true)
    ∷ (is_scheme, "", false)
    ∷ (is_scheme, "1a", false)
    ∷ (is_scheme, "+a", false)
    ∷ (is_scheme, "a_", false)
    ∷ (is_scheme, "a:", false)
    ∷ (is_scheme, "a b", false)
    ∷ (is_scheme, "é", false)
    ∷ (is_scheme, "aé", false)
    ∷ (is_scheme, "a%41", false)
    ∷ (is_port, "", true)
    ∷ (is_port, "080", true)
    ∷ (is_port, "a", false)
    ∷ (is_port, "8a", false)
    ∷ (is_port, "-1", false)
    ∷ (is_port, " 1", false)
    ∷ (is_user_info iri_chars, "%41b:é", true)
    ∷ (is_user_info iri_chars, "user:1", true)
    ∷ (is_user_info iri_chars, "/", false)
    ∷ (is_user_info iri_chars, "a@b", false)
    ∷ (is_authority iri_chars, "é@[::1]:8", true)
    ∷ (is_authority iri_chars, "%75@h:1", true)
    ∷ (is_authority iri_chars, "é@é", true)
    ∷ (is_authority iri_chars, "", true)
    ∷ (is_authority iri_chars, "a@b@c", false)
    ∷ (is_authority iri_chars, "h:80:81", false)
    ∷ (is_authority iri_chars, "h:a", false)
    ∷ (is_authority iri_chars, "::1", false)
    ∷ (is_authority iri_chars, "[::1]x", false)
    ∷ (is_authority iri_chars, "a%4@b", false)
    ∷ (is_authority iri_chars, "a/b", false)
    ∷ (is_segment iri_chars, "%41é", true)
    ∷ (is_segment iri_chars, "a:b", true)
    ∷ (is_segment iri_chars, "a/b", false)
    ∷ (is_segment iri_chars, "?", false)
    ∷ (is_path iri_chars, "/a/../b", true)
    ∷ (is_path iri_chars, "", true)
    ∷ (is_path iri_chars, "a:b", true)
    ∷ (is_path iri_chars, "/a/../é", true)
    ∷ (is_path iri_chars, "/a?b", false)
    ∷ (is_path iri_chars, "a b", false)
    ∷ (is_path iri_chars, "#", false)
    ∷ (is_query iri_chars, "é%41", true)
    ∷ (is_query iri_chars, "q%2f", true)
    ∷ (is_query iri_chars, "a?", true)
    ∷ (is_query iri_chars, "#", false)
    ∷ (is_query iri_chars, "a b", false)
    ∷ (is_fragment iri_chars, "é%41", true)
    ∷ (is_fragment iri_chars, "q%2f", true)
    ∷ (is_fragment iri_chars, "a?", true)
    ∷ (is_fragment iri_chars, "#", false)
    ∷ (is_fragment iri_chars, "a b", false)
    ∷ []

texts_hold : map (λ row. row.0 (utf8 row.1)) texts ≡ map (λ row. row.2) texts
unfolding is_authority has_authority_parts read_authority is_pct_str is_scheme is_port is_user_info is_host is_ip_literal is_ipvfuture ipv4_value ipv6_value is_reg_name
    is_segment is_path is_query is_fragment owed_after is_reg_name_char is_user_info_char is_path_char is_query_char is_fragment_char encode_utf8 is_utf8 chars
texts_hold = refl

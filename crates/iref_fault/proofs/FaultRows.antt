-- Worked rows of faults: why, where, and what stands there; computed.
use Prim.Native.String.{String}
use Rattle.std.specs.Prelude.{codes, encode_utf8_all, ◌≡◌, ℕ, List, [], ◌∷◌, map, Option, Some, None, option_and_then, option_map, refl}
use Rattle.std.specs.{Str.{chars, is_utf8}, Str.Lossy.{utf8_valid_len}, Char.{encode_utf8}, Fmt.{digits, debug_escape}}
use Rattle.iref_grammar.specs.{Characters.{uri_chars, iri_chars}, Rules.{Text}}
use Rattle.iref_grammar.specs.Grammar.{is_reg_name_char, is_user_info_char, is_path_char, is_fragment_char, is_query_char}
use Rattle.iref_grammar.specs.{IpAddresses.{ipv4_value, ipv6_value}, Tests.{owed_after, is_ip_literal, is_ipvfuture}}
use Rattle.iref_fault.specs.declared.component.Cause.{Cause}
use Rattle.iref_fault.specs.declared.component.Cause.TheVariants.{Invalid, NoScheme, NotUtf8}
use Rattle.iref_fault.specs.declared.component.Component.TheVariants.{Scheme, UserInfo, Host, Port, Path, Query, Fragment}
use Rattle.iref_fault.specs.{declared.component.Component.{Component}, Places.{PartRule, component_of, place_in}}
use Rattle.iref_fault.specs.{Cut.{Piece, authority_pieces, pieces_of}, Printed.{fault_text}}
use Rattle.iref_fault.specs.Faults.{FaultValue, fault_of_piece, fault_of_part, fault_of_authority, fault_of_reference, fault_of_uri}
use Rattle.iref_fault.specs.declared.part.PartRule.TheVariants as rule

-- the bytes of a quoted text
abbrev utf8 : String → Text
utf8 text = encode_utf8_all (codes text)

abbrev parts_of_fault : Option FaultValue → Option (Cause × ℕ × Option ℕ)
parts_of_fault None = None
parts_of_fault (Some f) = Some (f.cause, f.at, f.found)

-- a text; why it is no reference of URIs, where, and what stands there
abbrev references : List (String × Option (Cause × ℕ × Option ℕ))
references =
    ("1:2", Some (Invalid Scheme, 0, Some 0x31))
    ∷ ("a b:c", Some (Invalid Scheme, 1, Some 0x20))
    ∷ (":a", Some (Invalid Path, 0, Some 0x3A))
    ∷ ("//user:pass", Some (Invalid Port, 7, Some 0x70))
    ∷ ("//h:80:90", Some (Invalid Port, 6, Some 0x3A))
    ∷ ("//h%4/x", Some (Invalid Host, 5, Some 0x2F))
    ∷ ("//[::1]x:80", Some (Invalid Host, 2, Some 0x5B))
    ∷ ("a%", Some (Invalid Path, 2, None))
    ∷ ("a%4g", Some (Invalid Path, 3, Some 0x67))
    ∷ ("%%41", Some (Invalid Path, 1, Some 0x25))
    ∷ ("a%4?x", Some (Invalid Path, 3, Some 0x3F))
    ∷ ("a#b#c", Some (Invalid Fragment, 3, Some 0x23))
    ∷ ("a?é", Some (Invalid Query, 2, Some 0xE9))
    ∷ ("http://h.org:8x0/", Some (Invalid Port, 14, Some 0x78))
    ∷ ("a/b c", Some (Invalid Path, 3, Some 0x20))
    ∷ ("http:a%4", Some (Invalid Path, 8, None))
    ∷ ("http://[::1", Some (Invalid Host, 7, Some 0x5B))
    ∷ ("http://[1::2::3]/", Some (Invalid Host, 7, Some 0x5B))
    ∷ ("http://u@[::1]:80/a:b?c#d", None)
    ∷ ("", None)
    ∷ []

references_hold : map (λ row. parts_of_fault (fault_of_reference uri_chars (utf8 row.0))) references ≡ map (λ row. row.1) references
unfolding fault_of_reference fault_of_piece pieces_of authority_pieces place_in is_utf8 chars encode_utf8 owed_after is_reg_name_char is_user_info_char is_path_char is_fragment_char is_query_char is_ip_literal is_ipvfuture ipv6_value ipv4_value
references_hold = refl

-- a text; why it is no URI, where, and what stands there
abbrev uris : List (String × Option (Cause × ℕ × Option ℕ))
uris =
    ("a/b", Some (NoScheme, 0, None))
    ∷ (":a", Some (NoScheme, 0, None))
    ∷ ("http://u ser@h", Some (Invalid UserInfo, 8, Some 0x20))
    ∷ ("http://a@b@c", Some (Invalid Host, 10, Some 0x40))
    ∷ ("http://h", None)
    ∷ []

uris_hold : map (λ row. parts_of_fault (fault_of_uri uri_chars (utf8 row.0))) uris ≡ map (λ row. row.1) uris
unfolding fault_of_uri fault_of_piece pieces_of authority_pieces place_in is_utf8 chars encode_utf8 owed_after is_reg_name_char is_user_info_char is_path_char is_fragment_char is_query_char is_ip_literal is_ipvfuture ipv6_value ipv4_value
uris_hold = refl

-- bytes; why they are no reference of IRIs, where, and what stands there
abbrev bytes : List (Text × Option (Cause × ℕ × Option ℕ))
bytes =
    (0x61 ∷ 0xEE ∷ 0x80 ∷ 0x80 ∷ [], Some (Invalid Path, 1, Some 0xE000))
    ∷ (0x61 ∷ 0xC3 ∷ [], Some (NotUtf8, 1, None))
    ∷ (0x20 ∷ 0x61 ∷ 0xC3 ∷ [], Some (NotUtf8, 2, None))
    ∷ (0xC3 ∷ 0xA9 ∷ 0x3F ∷ 0xC3 ∷ 0xA9 ∷ 0x20 ∷ [], Some (Invalid Query, 5, Some 0x20))
    ∷ []

bytes_hold : map (λ row. parts_of_fault (fault_of_reference iri_chars row.0)) bytes ≡ map (λ row. row.1) bytes
unfolding fault_of_reference fault_of_piece pieces_of authority_pieces place_in is_utf8 utf8_valid_len chars encode_utf8 owed_after is_reg_name_char is_user_info_char is_path_char is_fragment_char is_query_char is_ip_literal is_ipvfuture ipv6_value ipv4_value
bytes_hold = refl

-- bytes; what is printed of the fault that they have as a URI
abbrev printed : List (Text × Option String)
printed =
    (codes "http://h.org:8x0/", Some "invalid port at byte 14: 'x'")
    ∷ (codes "a:b c", Some "invalid path at byte 3: ' '")
    ∷ (codes "http:a%4", Some "invalid path at byte 8: the text ends")
    ∷ (codes "http://u ser@h", Some "invalid user info at byte 8: ' '")
    ∷ (codes "s:?`", Some "invalid query at byte 3: '`'")
    ∷ (codes "s:#'\"", Some "invalid fragment at byte 4: '\"'")
    ∷ (codes "s:\n", Some "invalid path at byte 2: '\\n'")
    ∷ (codes "1:2", Some "invalid scheme at byte 0: '1'")
    ∷ (codes "http://[::1", Some "invalid host at byte 7: '['")
    ∷ (codes "a/b", Some "no scheme")
    ∷ (0x61 ∷ 0xC3 ∷ [], Some "not UTF-8 at byte 1")
    ∷ (codes "a:b", None)
    ∷ []

printed_hold : map (λ row. option_and_then fault_text (fault_of_uri uri_chars row.0)) printed ≡ map (λ row. option_map codes row.1) printed
unfolding fault_of_uri fault_of_piece pieces_of authority_pieces place_in is_utf8 utf8_valid_len chars encode_utf8 owed_after is_reg_name_char is_user_info_char is_path_char is_fragment_char is_query_char is_ip_literal is_ipvfuture ipv6_value ipv4_value digits debug_escape
printed_hold = refl

-- ---- single texts and authorities

-- the rule; a text; why it is not in the rule, where, and what stands there
abbrev parts : List (PartRule × String × Option (Cause × ℕ × Option ℕ))
parts =
    (rule.Scheme, "", Some (Invalid Scheme, 0, None))
    ∷ (rule.Scheme, "http:", Some (Invalid Scheme, 4, Some 0x3A))
    ∷ (rule.Scheme, "a+b", None)
    ∷ (rule.UserInfo, "u@", Some (Invalid UserInfo, 1, Some 0x40))
    ∷ (rule.Host, "[::1", Some (Invalid Host, 0, Some 0x5B))
    ∷ (rule.Host, "h:80", Some (Invalid Host, 1, Some 0x3A))
    ∷ (rule.Host, "1.2.3.4.5", None)
    ∷ (rule.Port, "80a", Some (Invalid Port, 2, Some 0x61))
    ∷ (rule.Path, "a/b?c", Some (Invalid Path, 3, Some 0x3F))
    ∷ (rule.Path, "a:b", None)
    ∷ (rule.Segment, "a/b", Some (Invalid Path, 1, Some 0x2F))
    ∷ (rule.Query, "q?[", Some (Invalid Query, 2, Some 0x5B))
    ∷ (rule.Fragment, "f%é", Some (Invalid Fragment, 2, Some 0xE9))
    ∷ []

parts_hold : map (λ row. parts_of_fault (fault_of_part uri_chars row.0 (utf8 row.1))) parts ≡ map (λ row. row.2) parts
unfolding fault_of_part fault_of_piece place_in is_utf8 chars encode_utf8 owed_after is_reg_name_char is_user_info_char is_path_char is_fragment_char is_query_char is_ip_literal is_ipvfuture ipv6_value ipv4_value
parts_hold = refl

-- a text; why it is no authority, where, and what stands there
abbrev authorities : List (String × Option (Cause × ℕ × Option ℕ))
authorities =
    ("u@[::1]:80", None)
    ∷ ("", None)
    ∷ ("h:", None)
    ∷ ("[::1]:8]:80", Some (Invalid Host, 0, Some 0x5B))
    ∷ ("[::1]:x", Some (Invalid Port, 6, Some 0x78))
    ∷ ("é@h", Some (Invalid UserInfo, 0, Some 0xE9))
    ∷ ("h/", Some (Invalid Host, 1, Some 0x2F))
    ∷ []

authorities_hold : map (λ row. parts_of_fault (fault_of_authority uri_chars (utf8 row.0))) authorities ≡ map (λ row. row.1) authorities
unfolding fault_of_authority fault_of_piece authority_pieces place_in is_utf8 chars encode_utf8 owed_after is_reg_name_char is_user_info_char is_path_char is_fragment_char is_query_char is_ip_literal is_ipvfuture ipv6_value ipv4_value
authorities_hold = refl

-- ---- the cut of any text

-- a text; its components, and where each begins
abbrev cuts : List (String × List (Component × ℕ × String))
cuts =
    ("a b://u@v@[w]:x]:y:z/p:?q?#f#", (Scheme, 0, "a b") ∷ (UserInfo, 6, "u") ∷ (Host, 8, "v@[w]") ∷ (Port, 14, "x]:y:z") ∷ (Path, 20, "/p:") ∷ (Query, 24, "q?") ∷ (Fragment, 27, "f#") ∷ [])
    ∷ ("//[a]:b]c:d:", (Host, 2, "[a]:b]c") ∷ (Port, 10, "d:") ∷ (Path, 12, "") ∷ [])
    ∷ ("//[a:b", (Host, 2, "[a:b") ∷ (Path, 6, "") ∷ [])
    ∷ (":a", (Path, 0, ":a") ∷ [])
    ∷ ("://h", (Path, 0, "://h") ∷ [])
    ∷ ("a/b:c", (Path, 0, "a/b:c") ∷ [])
    ∷ ("?a:b", (Path, 0, "") ∷ (Query, 1, "a:b") ∷ [])
    ∷ []

abbrev pieces_in : Text → List (Component × ℕ × Text)
pieces_in text = map (λ (p : Piece). let part : Component × ℕ × Text = (component_of p.rule, p.start, p.text) in part) (pieces_of text)

abbrev in_utf8 : List (Component × ℕ × String) → List (Component × ℕ × Text)
in_utf8 parts = map (λ (part : Component × ℕ × String). let bytes : Component × ℕ × Text = (part.0, part.1, utf8 part.2) in bytes) parts

cuts_hold : map (λ row. pieces_in (utf8 row.0)) cuts ≡ map (λ row. in_utf8 row.1) cuts
unfolding pieces_of authority_pieces encode_utf8
cuts_hold = refl

-- Worked rows of what texts are compared by: which are equal, and which comes first; computed (RFC 3986 section 6.2.2).
use Prim.Native.String.{String}
use Rattle.std.specs.{Prelude.{◌≡◌, Bool, true, false, ◌&&◌, List, [], ◌∷◌, map, refl}, Char.{encode_utf8}}
use Rattle.std.specs.{Ordering.{is_eq, is_lt}, declared.cmp.Ordering.{Ordering}, Str.{str_to_ascii_lowercase}}
use Rattle.percent_encoding.specs.Percent.{percent_decode}
use Rattle.iref_grammar.specs.{Keys.{text_order}, Authority.{read_authority}, PathValue.{read_path}}
use Rattle.iref_grammar.specs.Reference.{read_reference}
use Rattle.iref_grammar.specs.NormalList.{normal_segments, excess, staying_names}
use Rattle.iref_grammar.specs.{AuthorityKey.{authority_key, authority_key_cmp}, PathKey.{path_key, path_key_cmp}}
use Rattle.iref_grammar.specs.Key.{key, key_cmp}
use Rattle.iref_grammar.proofs.Rows.{utf8}

-- ---- the orders

abbrev TextOrder : Type 0
TextOrder = String → String → Ordering

-- of percent-encoded texts, user infos, hosts, segments, queries and fragments
abbrev decoded : TextOrder
decoded a b = text_order (percent_decode (utf8 a)) (percent_decode (utf8 b))

abbrev schemes : TextOrder
schemes a b = text_order (str_to_ascii_lowercase (utf8 a)) (str_to_ascii_lowercase (utf8 b))

abbrev ports : TextOrder
ports a b = text_order (utf8 a) (utf8 b)

abbrev authorities : TextOrder
authorities a b = authority_key_cmp (authority_key (read_authority (utf8 a))) (authority_key (read_authority (utf8 b)))

abbrev paths : TextOrder
paths a b = path_key_cmp (path_key (read_path (utf8 a))) (path_key (read_path (utf8 b)))

abbrev references : TextOrder
references a b = key_cmp (key (read_reference (utf8 a))) (key (read_reference (utf8 b)))

-- ---- pairs

-- the order, two texts, and whether they are equal
abbrev pairs : List (TextOrder × String × String × Bool)
pairs =
    (decoded, "%7E", "~", true)
    ∷ (decoded, "%41b", "Ab", true)
    ∷ (decoded, "%2E", ".", true)
    ∷ (decoded, "%2F", "%2f", true)
    ∷ (decoded, "%2F", "/", true)
    ∷ (decoded, "%c3%A9", "é", true)
    ∷ (decoded, "%e2%82%AC", "€", true)
    ∷ (decoded, "", "", true)
    ∷ (decoded, "a", "A", false)
    ∷ (decoded, "a", "%2561", false)
    ∷ (decoded, "a", "aa", false)
    ∷ (decoded, "", "a", false)
    ∷ (decoded, "", "%00", false)
    ∷ (schemes, "HTTP", "http", true)
    ∷ (schemes, "a+b", "A+B", true)
    ∷ (schemes, "ftp", "http", false)
    ∷ (schemes, "a-", "a", false)
    ∷ (ports, "80", "80", true)
    ∷ (ports, "80", "080", false)
    ∷ (ports, "", "0", false)
    ∷ (authorities, "%75@%68:80", "u@h:80", true)
    ∷ (authorities, "u%3A@h", "u:@h", true)
    ∷ (authorities, "%c3%A9", "é", true)
    ∷ (authorities, "A", "a", false)
    ∷ (authorities, "h:80", "h:080", false)
    ∷ (authorities, "h", "h:", false)
    ∷ (authorities, "h", "@h", false)
    ∷ (authorities, "a%40b", "a@b", false)
    ∷ (authorities, "a%3A1", "a:1", false)
    ∷ (authorities, "u@h", "h", false)
    ∷ (authorities, "a@", "@a", false)
    ∷ (paths, "/%7Eb/./c", "/~b/c", true)
    ∷ (paths, "../x", "%2E%2E/x", true)
    ∷ (paths, "/./", "/", true)
    ∷ (paths, "a/b/c", "a/../a/./b/../b/c", true)
    ∷ (paths, "a/b/../../../", "../", true)
    ∷ (paths, "a/..", "", true)
    ∷ (paths, "/a//../b", "/a/b", true)
    ∷ (paths, "%41/%c3%a9", "A/%C3%A9", true)
    ∷ (paths, "/é", "/%C3%A9", true)
    ∷ (paths, "../", "", false)
    ∷ (paths, "/foo/bar", "/foo/bar/", false)
    ∷ (paths, "/%2E", "/.", false)
    ∷ (paths, "", "/", false)
    ∷ (paths, "/%2F", "//", false)
    ∷ (paths, "a", "/a", false)
    ∷ (paths, "a//b", "a/b", false)
    ∷ (paths, "a/%2e%2E/b", "b", false)
    ∷ (paths, "..", "../..", false)
    ∷ (references, "?", "#", false)
    ∷ (references, "http://a:80", "http://a:080", false)
    ∷ (references, "//é", "//É", false)
    ∷ (references, "é", "%E9", false)
    ∷ (references, "é", "?é", false)
    ∷ []

pairs_hold : map (λ row. is_eq (row.0 row.1 row.2)) pairs ≡ map (λ row. row.3) pairs
unfolding read_reference read_authority read_path normal_segments excess staying_names path_key key key_cmp percent_decode encode_utf8
pairs_hold = refl

-- ---- order

-- whether each text comes before the next
abbrev ascends : TextOrder → List String → Bool
ascends order [] = true
ascends order (a ∷ []) = true
ascends order (a ∷ b ∷ more) = is_lt (order a b) && ascends order (b ∷ more)

-- the order, and texts that ascend in it
abbrev ascending : List (TextOrder × List String)
ascending =
    (decoded, "" ∷ "%2541" ∷ "%41b" ∷ "a b" ∷ "€" ∷ "%ff%00" ∷ [])
    ∷ (decoded, "%61" ∷ "b" ∷ [])
    ∷ (decoded, "a" ∷ "%61a" ∷ [])
    ∷ (decoded, "%c3%a8" ∷ "é" ∷ [])
    ∷ (schemes, "A" ∷ "b" ∷ [])
    ∷ (authorities, "z:9" ∷ "@a" ∷ [])
    ∷ (authorities, "a@z" ∷ "b@a" ∷ [])
    ∷ (authorities, "a:9" ∷ "b:1" ∷ [])
    ∷ (authorities, "a" ∷ "a:" ∷ [])
    ∷ (authorities, "a:80" ∷ "a:9" ∷ [])
    ∷ (authorities, "a%2F" ∷ "a0" ∷ [])
    ∷ (paths, "" ∷ "%2E%2E" ∷ ".." ∷ "../.." ∷ "a" ∷ "a/" ∷ "a/b" ∷ "a%2Fb" ∷ "%62" ∷ "/" ∷ "/a" ∷ [])
    ∷ (references, "" ∷ "?" ∷ "a" ∷ "a#" ∷ "a?" ∷ "a/b" ∷ "b" ∷ "/" ∷ "//" ∷ "//u@" ∷ "a:" ∷ "a:?#" ∷ "a://" ∷ "b:" ∷ [])
    ∷ []

ascending_hold : map (λ row. ascends row.0 row.1) ascending ≡ map (λ row. true) ascending
unfolding read_reference read_authority read_path normal_segments excess staying_names path_key key key_cmp percent_decode encode_utf8
ascending_hold = refl

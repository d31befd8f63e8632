-- Worked rows of the reading of texts: components, parts, segments, offsets, contexts; computed.
use Prim.Native.String.{String}
use Rattle.std.specs.Prelude.{◌≡◌, ℕ, Bool, true, false, List, [], ◌∷◌, map, codes, Option, Some, None, option_map, refl}
use Rattle.std.specs.declared.ops.Range.{Range}
use Rattle.iref_grammar.specs.{declared.offsets.Offsets.{Offsets}, declared.context.PathContext.{PathContext}}
use Rattle.iref_grammar.specs.{Rules.{Text}, Contexts.{context_from}}
use Rattle.iref_grammar.specs.Authority.{AuthorityValue, spell_authority, read_authority}
use Rattle.iref_grammar.specs.{PathValue.{PathValue, spell_path, read_path}, Reference.{ReferenceValue, read_reference}}
use Rattle.iref_grammar.specs.ComponentOffsets.{offsets_in, offsets_of}

-- ---- references (RFC 3986 section 3 and appendix B)

-- text; scheme, authority, path, query, fragment
abbrev references : List (String × Option String × Option String × String × Option String × Option String)
references =
    ("foo://example.com:8042/over/there?name=ferret#nose", Some "foo", Some "example.com:8042", "/over/there", Some "name=ferret", Some "nose")
    ∷ ("urn:example:animal:ferret:nose", Some "urn", None, "example:animal:ferret:nose", None, None)
    ∷ ("http://www.ics.uci.edu/pub/ietf/uri/#Related", Some "http", Some "www.ics.uci.edu", "/pub/ietf/uri/", None, Some "Related")
    ∷ ("//user:1@host.org:80/a//b?#", None, Some "user:1@host.org:80", "/a//b", Some "", Some "")
    ∷ ("scheme:////", Some "scheme", Some "", "//", None, None)
    ∷ ("http://h/a?q#f", Some "http", Some "h", "/a", Some "q", Some "f")
    ∷ ("a/:", None, None, "a/:", None, None)
    ∷ ("1/2:3", None, None, "1/2:3", None, None)
    ∷ ("/é?ü#ö", None, None, "/é", Some "ü", Some "ö")
    ∷ ("a?b?c:d/#e", None, None, "a", Some "b?c:d/", Some "e")
    ∷ ("", None, None, "", None, None)
    ∷ []

abbrev components : ReferenceValue → Option Text × Option Text × Text × Option Text × Option Text
components r = (r.scheme, option_map spell_authority r.authority, spell_path r.path, r.query, r.fragment)

references_hold :
    map (λ row. components (read_reference (codes row.0))) references
    ≡ map (λ row. (option_map codes row.1, option_map codes row.2, codes row.3, option_map codes row.4, option_map codes row.5)) references
unfolding read_reference spell_authority read_authority spell_path read_path
references_hold = refl

-- ---- offsets

-- text; where scheme, authority, path, query and fragment begin and end
abbrev offsets : List (String × Option (ℕ × ℕ) × Option (ℕ × ℕ) × (ℕ × ℕ) × Option (ℕ × ℕ) × Option (ℕ × ℕ))
offsets =
    ("http://h/a?q#f", Some (0, 4), Some (7, 8), (8, 10), Some (11, 12), Some (13, 14))
    ∷ ("http://h:40/a?q#f", Some (0, 4), Some (7, 11), (11, 13), Some (14, 15), Some (16, 17))
    ∷ ("http://h:40/?q#f", Some (0, 4), Some (7, 11), (11, 12), Some (13, 14), Some (15, 16))
    ∷ ("//h:40/?q#f", None, Some (2, 6), (6, 7), Some (8, 9), Some (10, 11))
    ∷ ("//?#", None, Some (2, 2), (2, 2), Some (3, 3), Some (4, 4))
    ∷ ("a/b", None, None, (0, 3), None, None)
    ∷ ("", None, None, (0, 0), None, None)
    ∷ []

abbrev ends : Range ℕ → ℕ × ℕ
ends range = (range.start, range.end)

abbrev ends_of_each : Offsets → Option (ℕ × ℕ) × Option (ℕ × ℕ) × (ℕ × ℕ) × Option (ℕ × ℕ) × Option (ℕ × ℕ)
ends_of_each at = (option_map ends at.scheme, option_map ends at.authority, ends at.path, option_map ends at.query, option_map ends at.fragment)

offsets_hold : map (λ row. ends_of_each (offsets_of (codes row.0))) offsets ≡ map (λ row. (row.1, row.2, row.3, row.4, row.5)) offsets
unfolding offsets_of offsets_in read_reference spell_authority read_authority spell_path read_path
offsets_hold = refl

-- ---- authorities (RFC 3986 section 3.2)

-- text; user info, host, port
abbrev authorities : List (String × Option String × String × Option String)
authorities =
    ("user:1@host.org:80", Some "user:1", "host.org", Some "80")
    ∷ ("[::1]:80", None, "[::1]", Some "80")
    ∷ ("u@[::1]", Some "u", "[::1]", None)
    ∷ ("[V1.x]", None, "[V1.x]", None)
    ∷ ("@h:", Some "", "h", Some "")
    ∷ ("a:b@c", Some "a:b", "c", None)
    ∷ ("%75@h:1", Some "%75", "h", Some "1")
    ∷ ("é@[::1]:8", Some "é", "[::1]", Some "8")
    ∷ (":a:@[v1.:]:", Some ":a:", "[v1.:]", Some "")
    ∷ ("[::1]", None, "[::1]", None)
    ∷ ("h:080", None, "h", Some "080")
    ∷ ("@", Some "", "", None)
    ∷ (":", None, "", Some "")
    ∷ ("@:", Some "", "", Some "")
    ∷ ("", None, "", None)
    ∷ []

abbrev parts : AuthorityValue → Option Text × Text × Option Text
parts a = (a.user_info, a.host, a.port)

authorities_hold :
    map (λ row. parts (read_authority (codes row.0))) authorities
    ≡ map (λ row. (option_map codes row.1, codes row.2, option_map codes row.3)) authorities
unfolding read_authority
authorities_hold = refl

-- ---- paths (RFC 3986 section 3.3)

-- text; whether the path is absolute; its segments
abbrev paths : List (String × Bool × List String)
paths =
    ("", false, [])
    ∷ ("/", true, [])
    ∷ ("//", true, "" ∷ "" ∷ [])
    ∷ ("a", false, "a" ∷ [])
    ∷ ("/a", true, "a" ∷ [])
    ∷ ("a/", false, "a" ∷ "" ∷ [])
    ∷ ("/./", true, "." ∷ "" ∷ [])
    ∷ ("é//..", false, "é" ∷ "" ∷ ".." ∷ [])
    ∷ ("/a/../é", true, "a" ∷ ".." ∷ "é" ∷ [])
    ∷ ("/a//b", true, "a" ∷ "" ∷ "b" ∷ [])
    ∷ ("//a/b/foo//bar/", true, "" ∷ "a" ∷ "b" ∷ "foo" ∷ "" ∷ "bar" ∷ "" ∷ [])
    ∷ []

abbrev flag_and_list : PathValue → Bool × List Text
flag_and_list p = (p.absolute, p.segments)

paths_hold : map (λ row. flag_and_list (read_path (codes row.0))) paths ≡ map (λ row. (row.1, map codes row.2)) paths
unfolding read_path
paths_hold = refl

-- ---- contexts

-- what stands before a path; whether it has a scheme, and an authority
abbrev contexts : List (String × Bool × Bool)
contexts =
    ("http://h", true, true)
    ∷ ("http:", true, false)
    ∷ ("s:/", true, false)
    ∷ ("//h", false, true)
    ∷ ("x//h", false, false)
    ∷ ("/a:b", false, false)
    ∷ ("?a:b", false, false)
    ∷ ("#a:b", false, false)
    ∷ ("", false, false)
    ∷ []

abbrev flags : PathContext → Bool × Bool
flags context = (context.has_scheme, context.has_authority)

contexts_hold : map (λ row. flags (context_from (codes row.0))) contexts ≡ map (λ row. (row.1, row.2)) contexts
unfolding context_from
contexts_hold = refl

-- Worked rows of the shortest reference to a text, computed; `none` stands for no answer.
use Prim.Native.String.{String}
use Rattle.std.specs.Prelude.{◌≡◌, List, [], ◌∷◌, map, codes, encode_utf8_all, refl, Option, None, Some}
use Rattle.std.specs.Char.{encode_utf8}
use Rattle.iref_grammar.specs.{Rules.{Text}, Authority.{spell_authority, read_authority}}
use Rattle.iref_grammar.specs.{PathValue.{spell_path, read_path}, Reference.{ReferenceValue, spell, read_reference}}
use Rattle.iref_grammar.specs.{Guard.{guarded}, NormalList.{normal_segments, excess, staying_names}}
use Rattle.iref_grammar.specs.{Resolution.{resolved}, Relativized.{relativized}}

-- the bytes of a text in UTF-8
abbrev utf8 : String → Text
utf8 text = encode_utf8_all (codes text)

abbrev shown : Option ReferenceValue → Text
shown None = codes "none"
shown (Some r) = spell r

abbrev relativized_text : String → String → Text
relativized_text target base = shown (relativized (read_reference (utf8 target)) (read_reference (utf8 base)))

-- target, base, answer
abbrev rows : List (String × String × String)
rows =
    ("http://a/b/c/g", "http://a/b/c/d;p?q", "g")
    ∷ ("http://a/b/c/d;p?q", "http://a/b/c/d;p?q", "")
    ∷ ("http://a/b/c/d;p?q#s", "http://a/b/c/d;p?q", "#s")
    ∷ ("http://a/b/c/d;p?y", "http://a/b/c/d;p?q", "?y")
    ∷ ("http://a/b/c/d;p", "http://a/b/c/d;p?q", "d;p")
    ∷ ("http://a/b/c/", "http://a/b/c/d;p?q", ".")
    ∷ ("http://a/b/", "http://a/b/c/d;p?q", "..")
    ∷ ("http://a/", "http://a/b/c/d;p?q", "/")
    ∷ ("http://a/b/g", "http://a/b/c/d;p?q", "../g")
    ∷ ("http://a", "http://a/b/c/d;p?q", "//a")
    ∷ ("http://g/x", "http://a/b/c/d;p?q", "//g/x")
    ∷ ("https://a/b", "http://a/b/c/d;p?q", "https://a/b")
    ∷ ("HTTP://a/b", "http://a/b/c/d;p?q", "HTTP://a/b")
    ∷ ("http://a/%7Eb/c", "http://a/~b/d", "/%7Eb/c")
    ∷ ("http://a/x/../b", "http://a/c", "none")
    ∷ ("http://a/x/../b#f", "http://a/x/../b?q", "none")
    ∷ ("http://a/x/../b?r", "http://a/x/../b?q", "?r")
    ∷ ("http://a/b/x:y", "http://a/b/c", "./x:y")
    ∷ ("http://a//b", "http://a/c", ".//b")
    ∷ ("http://a/q", "http://a/1/2/3", "/q")
    ∷ ("http://A/b", "http://a/c", "//A/b")
    ∷ ("urn:a:c", "urn:a:b", "./a:c")
    ∷ ("urn:a:b#f", "urn:a:b", "#f")
    ∷ ("http://h/?q", "http://h", ".?q")
    ∷ ("http://h", "http://h/", "//h")
    ∷ ("http://h/a/..", "http://h/b", "none")
    ∷ ("s:../", "s:a/b", "s:..")
    ∷ ("mailto:x@y", "mailto:z@y", "x@y")
    ∷ []

rows_hold : map (λ row. relativized_text row.0 row.1) rows ≡ map (λ row. utf8 row.2) rows
unfolding encode_utf8 spell read_reference relativized resolved spell_authority read_authority spell_path read_path guarded normal_segments excess staying_names
rows_hold = refl

-- the same of IRIs: bytes of UTF-8 are compared, as they stand
abbrev iri_rows : List (String × String × String)
iri_rows =
    ("http://é/b/ü", "http://é/b/c", "ü")
    ∷ ("http://ö/b", "http://é/c", "//ö/b")
    ∷ ("http://é", "http://é/ü", "//é")
    ∷ ("http://a/é/", "http://a/é/ü/d", "..")
    ∷ ("http://a/é/ü", "http://a/é/b/c", "../ü")
    ∷ ("http://a/ü", "http://a/1/2/é", "/ü")
    ∷ ("http://a/%C3%A9/c", "http://a/é/d", "/%C3%A9/c")
    ∷ ("http://a/é/../b", "http://a/c", "none")
    ∷ ("http://a/é:ü", "http://a/c", "/é:ü")
    ∷ ("http://a/b?ü", "http://a/b?é", "?ü")
    ∷ ("http://a/b?é#ü", "http://a/b?é", "#ü")
    ∷ ("http://a/b?é", "http://a/b?%C3%A9", "?é")
    ∷ ("urn:é:c", "urn:é:b", "./é:c")
    ∷ []

iri_rows_hold : map (λ row. relativized_text row.0 row.1) iri_rows ≡ map (λ row. utf8 row.2) iri_rows
unfolding encode_utf8 spell read_reference relativized resolved spell_authority read_authority spell_path read_path guarded normal_segments excess staying_names
iri_rows_hold = refl

-- the shortest has the fewest bytes: `/éé/c` has fewer characters than `../../c`, and as many bytes
abbrev length_rows : List (String × String × String)
length_rows =
    ("http://a/é/c", "http://a/é/1/2/3", "/é/c")
    ∷ ("http://a/éé/c", "http://a/éé/1/2/3", "../../c")
    ∷ ("http://a/ééé/c", "http://a/ééé/1/2/3", "../../c")
    ∷ []

length_rows_hold : map (λ row. relativized_text row.0 row.1) length_rows ≡ map (λ row. utf8 row.2) length_rows
unfolding encode_utf8 spell read_reference relativized resolved spell_authority read_authority spell_path read_path guarded normal_segments excess staying_names
length_rows_hold = refl

-- excess `..` of a base, and paths that begin with an empty segment
abbrev other_rows : List (String × String × String)
other_rows =
    ("s:../../x", "s:a/b", "s:../../x")
    ∷ ("s:../x", "s:../../y", "s:../x")
    ∷ ("s:../../x", "s:../y/z", "../../x")
    ∷ ("s:.//b", "s:a", ".//b")
    ∷ ("s:/.//b", "s:/a", ".//b")
    ∷ ("s:a/b", "s:", "a/b")
    ∷ ("s:", "s:a/b", "..")
    ∷ ("http://a/./b", "http://a/./b#f", "")
    ∷ []

other_rows_hold : map (λ row. relativized_text row.0 row.1) other_rows ≡ map (λ row. utf8 row.2) other_rows
unfolding encode_utf8 spell read_reference relativized resolved spell_authority read_authority spell_path read_path guarded normal_segments excess staying_names
other_rows_hold = refl

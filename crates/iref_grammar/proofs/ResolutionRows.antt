-- Worked rows of resolution, computed (RFC 3986 section 5.4).
use Prim.Native.String.{String}
use Rattle.std.specs.Prelude.{◌≡◌, List, [], ◌∷◌, map, codes, refl}
use Rattle.iref_grammar.specs.{Rules.{Text}, Authority.{spell_authority, read_authority}}
use Rattle.iref_grammar.specs.{PathValue.{spell_path, read_path}, Reference.{spell, read_reference}}
use Rattle.iref_grammar.specs.{Guard.{guarded}, NormalList.{normal_segments, excess, staying_names}}
use Rattle.iref_grammar.specs.Resolution.{resolved}

-- the text that the reference resolves to under the base
abbrev resolved_text : String → String → Text
resolved_text base r = spell (resolved (read_reference (codes base)) (read_reference (codes r)))

-- the base of the RFC's examples
abbrev rfc_base : String
rfc_base = "http://a/b/c/d;p?q"

-- reference, result: the RFC's normal examples (section 5.4.1)
abbrev normal_examples : List (String × String)
normal_examples =
    ("g:h", "g:h")
    ∷ ("g", "http://a/b/c/g")
    ∷ ("./g", "http://a/b/c/g")
    ∷ ("g/", "http://a/b/c/g/")
    ∷ ("/g", "http://a/g")
    ∷ ("//g", "http://g")
    ∷ ("?y", "http://a/b/c/d;p?y")
    ∷ ("g?y", "http://a/b/c/g?y")
    ∷ ("#s", "http://a/b/c/d;p?q#s")
    ∷ ("g#s", "http://a/b/c/g#s")
    ∷ ("g?y#s", "http://a/b/c/g?y#s")
    ∷ (";x", "http://a/b/c/;x")
    ∷ ("g;x", "http://a/b/c/g;x")
    ∷ ("g;x?y#s", "http://a/b/c/g;x?y#s")
    ∷ ("", "http://a/b/c/d;p?q")
    ∷ (".", "http://a/b/c/")
    ∷ ("./", "http://a/b/c/")
    ∷ ("..", "http://a/b/")
    ∷ ("../", "http://a/b/")
    ∷ ("../g", "http://a/b/g")
    ∷ ("../..", "http://a/")
    ∷ ("../../", "http://a/")
    ∷ ("../../g", "http://a/g")
    ∷ []

normal_examples_hold : map (λ row. resolved_text rfc_base row.0) normal_examples ≡ map (λ row. codes row.1) normal_examples
unfolding spell read_reference resolved spell_authority read_authority spell_path read_path guarded normal_segments excess staying_names
normal_examples_hold = refl

-- its abnormal examples (section 5.4.2), strict
abbrev abnormal_examples : List (String × String)
abnormal_examples =
    ("../../../g", "http://a/g")
    ∷ ("../../../../g", "http://a/g")
    ∷ ("/./g", "http://a/g")
    ∷ ("/../g", "http://a/g")
    ∷ ("g.", "http://a/b/c/g.")
    ∷ (".g", "http://a/b/c/.g")
    ∷ ("g..", "http://a/b/c/g..")
    ∷ ("..g", "http://a/b/c/..g")
    ∷ ("./../g", "http://a/b/g")
    ∷ ("./g/.", "http://a/b/c/g/")
    ∷ ("g/./h", "http://a/b/c/g/h")
    ∷ ("g/../h", "http://a/b/c/h")
    ∷ ("g;x=1/./y", "http://a/b/c/g;x=1/y")
    ∷ ("g;x=1/../y", "http://a/b/c/y")
    ∷ ("g?y/./x", "http://a/b/c/g?y/./x")
    ∷ ("g?y/../x", "http://a/b/c/g?y/../x")
    ∷ ("g#s/./x", "http://a/b/c/g#s/./x")
    ∷ ("g#s/../x", "http://a/b/c/g#s/../x")
    ∷ ("http:g", "http:g")
    ∷ []

abnormal_examples_hold : map (λ row. resolved_text rfc_base row.0) abnormal_examples ≡ map (λ row. codes row.1) abnormal_examples
unfolding spell read_reference resolved spell_authority read_authority spell_path read_path guarded normal_segments excess staying_names
abnormal_examples_hold = refl

-- a component that is empty, not absent
abbrev empty_components : List (String × String)
empty_components =
    ("?", "http://a/b/c/d;p?")
    ∷ ("#", "http://a/b/c/d;p?q#")
    ∷ ("//", "http://")
    ∷ []

empty_components_hold : map (λ row. resolved_text rfc_base row.0) empty_components ≡ map (λ row. codes row.1) empty_components
unfolding spell read_reference resolved spell_authority read_authority spell_path read_path guarded normal_segments excess staying_names
empty_components_hold = refl

-- base, reference, result
abbrev other_bases : List (String × String × String)
other_bases =
    ("http://a/bb/ccc/./d;p?q", "../g", "http://a/bb/g")
    ∷ ("http://ab//de//ghi", "xyz", "http://ab//de//xyz")
    ∷ ("http://ab//de//ghi", "../xyz", "http://ab//de/xyz")
    ∷ ("http://a/bb/ccc/../d;p?q", "../../", "http://a/")
    ∷ ("scheme:a:b/", "Foo", "scheme:a:b/Foo")
    ∷ ("http://a", "g/h", "http://a/g/h")
    ∷ ("http://a", ".", "http://a/")
    ∷ ("http://a", "?q", "http://a?q")
    ∷ ("s:a", "../x", "s:../x")
    ∷ ("http://a/b/../c?q", "#s", "http://a/b/../c?q#s")
    ∷ ("http:/a/b", "../..//", "http:/.//")
    ∷ ("s:", "g", "s:g")
    ∷ ("http://h/a/..", "g", "http://h/a/g")
    ∷ ("http://a//foo", "g", "http://a//g")
    ∷ ("scheme:a:b/c", "g", "scheme:a:b/g")
    ∷ ("http://h?q", "", "http://h?q")
    ∷ ("s:a/..", "g", "s:a/g")
    ∷ ("http:d/y", "d/y", "http:d/d/y")
    ∷ []

other_bases_hold : map (λ row. resolved_text row.0 row.1) other_bases ≡ map (λ row. codes row.2) other_bases
unfolding spell read_reference resolved spell_authority read_authority spell_path read_path guarded normal_segments excess staying_names
other_bases_hold = refl

-- Worked rows of relative references, computed.
use Prim.Native.String.{String}
use Rattle.std.specs.Prelude.{◌≡◌, List, [], ◌∷◌, map, codes, refl}
use Rattle.iref_grammar.specs.{Rules.{Text}, Authority.{spell_authority, read_authority}}
use Rattle.iref_grammar.specs.{PathValue.{spell_path, read_path}, Reference.{spell, read_reference}}
use Rattle.percent_encoding.specs.Percent.{percent_decode}
use Rattle.iref_grammar.specs.{Guard.{guarded}, NormalList.{normal_segments, excess, staying_names}, PathKey.{path_key}}
use Rattle.iref_grammar.specs.{Key.{key}, Relative.{relative_to}}

-- the text that leads from the base to the target
abbrev relative_text : String → String → Text
relative_text base target = spell (relative_to (read_reference (codes target)) (read_reference (codes base)))

-- base, target, answer: scheme and authority agree
abbrev same_authority : List (String × String × String)
same_authority =
    ("http://a/b/c/d", "http://a/b", "../../b")
    ∷ ("http://a/b", "http://a/", "./")
    ∷ ("http://a/", "http://a/", "")
    ∷ ("http://a/b?q", "http://a/b#f", "b#f")
    ∷ ("https://example.org/foo/bar", "https://example.org/other", "../other")
    ∷ ("http://a/c", "http://a//b", ".//b")
    ∷ ("http://a/b", "http://a/x:y", "./x:y")
    ∷ ("http://a", "http://a?q", "?q")
    ∷ ("urn:x", "urn:x#f", "#f")
    ∷ ("http://a/b/c/d", "http://a/b/c/", "./")
    ∷ ("http://a/x/y/../z", "http://a/x", "../x")
    ∷ ("http://a/b", "http://a/%2E%2E", "%2E%2E")
    ∷ ("http://a/b", "http://a//", ".//")
    ∷ ("http://a", "http://a/", "/")
    ∷ ("http://a", "http://a/g/h", "/g/h")
    ∷ ("http://a", "http://a//b", "/.//b")
    ∷ []

same_authority_hold : map (λ row. relative_text row.0 row.1) same_authority ≡ map (λ row. codes row.2) same_authority
unfolding spell read_reference relative_to spell_authority read_authority spell_path read_path guarded normal_segments excess staying_names path_key key percent_decode
same_authority_hold = refl

-- they do not agree, or the target has none, or its path is empty
abbrev other_schemes_and_authorities : List (String × String × String)
other_schemes_and_authorities =
    ("http://a/b", "http://a", "http://a")
    ∷ ("http:/path", "http://a/path", "http://a/path")
    ∷ ("//a/path", "http://a/path", "http://a/path")
    ∷ ("http://a/path", "//a/path", "path")
    ∷ ("http:/y", "/x", "x")
    ∷ ("http:d/y", "d/y", "d/y")
    ∷ []

other_schemes_and_authorities_hold : map (λ row. relative_text row.0 row.1) other_schemes_and_authorities ≡ map (λ row. codes row.2) other_schemes_and_authorities
unfolding spell read_reference relative_to spell_authority read_authority spell_path read_path guarded normal_segments excess staying_names path_key key percent_decode
other_schemes_and_authorities_hold = refl

-- the base of the examples from JSON-LD
abbrev json_ld_base : String
json_ld_base = "https://w3c.github.io/json-ld-api/tests/compact/0066-in.jsonld"

-- target, answer
abbrev json_ld_examples : List (String × String)
json_ld_examples =
    ("https://w3c.github.io/json-ld-api/tests/compact/link", "link")
    ∷ ("https://w3c.github.io/json-ld-api/tests/", "../")
    ∷ ("https://w3c.github.io/json-ld-api/", "../../")
    ∷ ("https://w3c.github.io/json-ld-api/parent#fragment", "../../parent#fragment")
    ∷ ("https://w3c.github.io/parent-parent-eq-root", "../../../parent-parent-eq-root")
    ∷ ("https://w3c.github.io/json-ld-api/tests/compact/0066-in.jsonld", "0066-in.jsonld")
    ∷ ("https://w3c.github.io/json-ld-api/tests/compact/0066-in.jsonld?query=works", "?query=works")
    ∷ []

json_ld_examples_hold : map (λ row. relative_text json_ld_base row.0) json_ld_examples ≡ map (λ row. codes row.1) json_ld_examples
unfolding spell read_reference relative_to spell_authority read_authority spell_path read_path guarded normal_segments excess staying_names path_key key percent_decode
json_ld_examples_hold = refl

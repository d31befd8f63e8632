-- Worked rows of references: components, beginnings, equality, suffixes; computed.
use Prim.Native.String.{String}
use Rattle.std.specs.Prelude.{◌≡◌, Bool, true, false, List, [], ◌∷◌, map, codes, encode_utf8_all, Option, Some, None, option_map, refl}
use Rattle.std.specs.Char.{encode_utf8}
use Rattle.percent_encoding.specs.Percent.{percent_decode}
use Rattle.iref_grammar.specs.{Rules.{Text}, Authority.{spell_authority, read_authority}}
use Rattle.iref_grammar.specs.{PathValue.{spell_path, read_path}, Reference.{ReferenceValue, spell, read_reference}}
use Rattle.iref_grammar.specs.{Guard.{guarded}, NormalList.{normal_segments, excess, staying_names}, PathKey.{path_key}}
use Rattle.iref_grammar.specs.{PathFunctions.{directory}, PathSuffix.{path_suffix}, Key.{key, key_cmp, are_alike}}
use Rattle.iref_grammar.specs.ReferenceParts.{base_of, without_fragment, without_query_and_fragment}
use Rattle.iref_grammar.specs.ReferenceSuffix.{reference_suffix}

abbrev reference : String → ReferenceValue
reference text = read_reference (encode_utf8_all (codes text))

-- ---- components

-- every component; absent and empty ones differ
components_of_a_reference :
    reference "//user:1@host.org:80/a//b?#"
    ≡ record {
      scheme = None;
      authority = Some (record { user_info = Some (codes "user:1"); host = codes "host.org"; port = Some (codes "80") });
      path = record { absolute = true; segments = codes "a" ∷ [] ∷ codes "b" ∷ [] };
      query = Some [];
      fragment = Some [];
    }
unfolding read_reference read_authority read_path encode_utf8
components_of_a_reference = refl

components_of_the_empty_text :
    reference "" ≡ record { scheme = None; authority = None; path = record { absolute = false; segments = [] }; query = None; fragment = None }
unfolding read_reference read_path
components_of_the_empty_text = refl

-- ---- beginnings

-- reference, its base, without the fragment, without query and fragment
abbrev beginnings_of : List (String × String × String × String)
beginnings_of =
    ("http://example.org/a", "http://example.org/", "http://example.org/a", "http://example.org/a")
    ∷ ("http://example.org", "http://example.org", "http://example.org", "http://example.org")
    ∷ ("s:a/b?q#f", "s:a/", "s:a/b?q", "s:a/b")
    ∷ ("s:a/b#f", "s:a/", "s:a/b", "s:a/b")
    ∷ ("s:a?q#f", "s:", "s:a?q", "s:a")
    ∷ ("http://h/a?q#f", "http://h/", "http://h/a?q", "http://h/a")
    ∷ ("//h/a/b/?q/#f/", "//h/a/b/", "//h/a/b/?q/", "//h/a/b/")
    ∷ ("//user:1@host.org:80/a//b?#", "//user:1@host.org:80/a//", "//user:1@host.org:80/a//b?", "//user:1@host.org:80/a//b")
    ∷ ("a?q", "", "a?q", "a")
    ∷ ("a#", "", "a", "a")
    ∷ []

abbrev parts_cut_off : String → Text × Text × Text
parts_cut_off text =
    (spell (base_of (reference text)), spell (without_fragment (reference text)), spell (without_query_and_fragment (reference text)))

beginnings_hold : map (λ row. parts_cut_off row.0) beginnings_of ≡ map (λ row. (codes row.1, codes row.2, codes row.3)) beginnings_of
unfolding spell read_reference spell_authority read_authority spell_path read_path directory base_of encode_utf8
beginnings_hold = refl

-- ---- equality (RFC 3986 section 6.2.2)

abbrev are_equal : String → String → Bool
are_equal r s = are_alike (reference r) (reference s)

abbrev equal_pairs : List (String × String)
equal_pairs =
    ("HTTP://a/%7Eb/./c", "http://a/~b/c")
    ∷ ("../x", "%2E%2E/x")
    ∷ ("/./", "/")
    ∷ ("a/b/c", "a/../a/./b/../b/c")
    ∷ ("http:a/b/../../../", "http:../")
    ∷ ("http://exa%6dple.org", "http://example.org")
    ∷ ("http://a/é", "http://a/%C3%A9")
    ∷ ("http://a/é", "http://a/%c3%a9")
    ∷ []

equal_pairs_hold : map (λ row. are_equal row.0 row.1) equal_pairs ≡ map (λ row. true) equal_pairs
unfolding read_reference read_authority read_path normal_segments excess staying_names path_key key key_cmp percent_decode encode_utf8
equal_pairs_hold = refl

abbrev unequal_pairs : List (String × String)
unequal_pairs =
    ("http:../", "http:")
    ∷ ("http://example.org", "http://example.org:80")
    ∷ ("/foo/bar", "/foo/bar/")
    ∷ ("/%2E", "/.")
    ∷ ("http://a", "http://a/")
    ∷ ("http://A", "http://a")
    ∷ ("//a:80", "//a:080")
    ∷ ("/%2F", "//")
    ∷ ("a?", "a")
    ∷ ("a#", "a")
    ∷ []

unequal_pairs_hold : map (λ row. are_equal row.0 row.1) unequal_pairs ≡ map (λ row. false) unequal_pairs
unfolding read_reference read_authority read_path normal_segments excess staying_names path_key key key_cmp percent_decode encode_utf8
unequal_pairs_hold = refl

-- ---- suffixes

-- prefix, reference, what is left: path, query, fragment
abbrev suffixes : List (String × String × Option (Text × Option Text × Option Text))
suffixes =
    ("http://a/b?r", "http://a/b/c?q#f", Some (codes "c", Some (codes "q"), Some (codes "f")))
    ∷ ("HTTP://a/%62", "http://a/b/c", Some (codes "c", None, None))
    ∷ ("/foo", "/foo/", Some (codes "./", None, None))
    ∷ ("/foo/", "/foo/bar", None)
    ∷ ("http://a/b", "http://c/b/c", None)
    ∷ ("http://a/b", "//a/b/c", None)
    ∷ ("/foo", "foo", None)
    ∷ []

abbrev suffix_texts : String → String → Option (Text × Option Text × Option Text)
suffix_texts prefix r = option_map (λ left. (spell_path left.0, left.1, left.2)) (reference_suffix (reference prefix) (reference r))

suffixes_hold : map (λ row. suffix_texts row.0 row.1) suffixes ≡ map (λ row. row.2) suffixes
unfolding read_reference read_authority spell_path read_path guarded normal_segments excess staying_names path_key key path_suffix reference_suffix percent_decode encode_utf8
suffixes_hold = refl

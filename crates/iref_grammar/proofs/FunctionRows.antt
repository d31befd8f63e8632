-- Worked rows of the functions of paths, computed.
use Prim.Native.String.{String}
use Rattle.std.specs.Prelude.{◌≡◌, ℕ, Bool, true, false, List, [], ◌∷◌, map, codes, Option, Some, None, option_map, refl}
use Rattle.iref_grammar.specs.{Rules.{Text}, Tests.{is_scheme}, PathValue.{PathValue, spell_path, read_path}}
use Rattle.iref_grammar.specs.Guard.{guarded_list}
use Rattle.iref_grammar.specs.PathFunctions.{segment_count, first, last, file_name, directory, directory_text, parent, parent_or_empty, looks_like_scheme}
use Rattle.iref_grammar.proofs.Rows.{path, spelled}

-- path; how many segments, the first, the last, the file name
abbrev ends : List (String × ℕ × Option String × Option String × Option String)
ends =
    ("", 0, None, None, None)
    ∷ ("/", 0, None, None, None)
    ∷ ("//", 2, Some "", Some "", None)
    ∷ ("a", 1, Some "a", Some "a", Some "a")
    ∷ ("/a/", 2, Some "a", Some "", None)
    ∷ ("//foo", 2, Some "", Some "foo", Some "foo")
    ∷ ("foo", 1, Some "foo", Some "foo", Some "foo")
    ∷ ("foo/", 2, Some "foo", Some "", None)
    ∷ ("/foo/bar", 2, Some "foo", Some "bar", Some "bar")
    ∷ ("/foo/bar/", 3, Some "foo", Some "", None)
    ∷ ("//a/b/foo//bar/", 7, Some "", Some "", None)
    ∷ ("a/..", 2, Some "a", Some "..", Some "..")
    ∷ []

abbrev ends_of : PathValue → ℕ × Option Text × Option Text × Option Text
ends_of p = (segment_count p, first p, last p, file_name p)

ends_hold : map (λ row. ends_of (path row.0)) ends ≡ map (λ row. (row.1, option_map codes row.2, option_map codes row.3, option_map codes row.4)) ends
unfolding read_path file_name
ends_hold = refl

-- path; its directory
abbrev directories : List (String × String)
directories =
    ("/foo/bar", "/foo/")
    ∷ ("/foo/bar/", "/foo/bar/")
    ∷ ("/foo", "/")
    ∷ ("//foo", "//")
    ∷ ("/", "/")
    ∷ ("//", "//")
    ∷ ("//a/b/foo//bar/", "//a/b/foo//bar/")
    ∷ ("foo/", "foo/")
    ∷ ("a/..", "a/")
    ∷ ("foo", "")
    ∷ ("", "")
    ∷ []

directories_hold : map (λ row. spell_path (directory (path row.0))) directories ≡ map (λ row. codes row.1) directories
unfolding spell_path read_path directory
directories_hold = refl

directory_texts_hold : map (λ row. directory_text (codes row.0)) directories ≡ map (λ row. codes row.1) directories
unfolding directory_text
directory_texts_hold = refl

-- path; its parent, the parent or the empty path
abbrev parents : List (String × Option String × String)
parents =
    ("//a/b", Some "//a", "//a")
    ∷ ("//a", Some "/./", "/./")
    ∷ ("//", Some "/./", "/./")
    ∷ ("/./", Some "/.", "/.")
    ∷ ("/.", Some "/", "/")
    ∷ ("/a", Some "/", "/")
    ∷ ("a/b", Some "a", "a")
    ∷ ("a/", Some "a", "a")
    ∷ ("a//", Some "a/", "a/")
    ∷ ("a", None, "")
    ∷ (".", None, "")
    ∷ ("/", None, "/")
    ∷ ("", None, "")
    ∷ []

abbrev parents_of : PathValue → Option Text × Text
parents_of p = (spelled (parent p), spell_path (parent_or_empty p))

parents_hold : map (λ row. parents_of (path row.0)) parents ≡ map (λ row. (option_map codes row.1, codes row.2)) parents
unfolding spell_path read_path guarded_list parent parent_or_empty
parents_hold = refl

-- text of a path or a segment; whether it looks like one with a scheme
abbrev scheme_looks : List (String × Bool)
scheme_looks =
    ("http:foo", true)
    ∷ ("a+.-1:/b", true)
    ∷ ("http:", true)
    ∷ ("a:b", true)
    ∷ ("a+b-c.1:", true)
    ∷ ("a:b/c:d", true)
    ∷ ("http", false)
    ∷ ("foo/bar", false)
    ∷ ("a/b:c", false)
    ∷ ("1:2", false)
    ∷ ("%61:", false)
    ∷ ("/a:b", false)
    ∷ ("a", false)
    ∷ (":", false)
    ∷ ("", false)
    ∷ []

scheme_looks_hold : map (λ row. looks_like_scheme (codes row.0)) scheme_looks ≡ map (λ row. row.1) scheme_looks
unfolding is_scheme looks_like_scheme
scheme_looks_hold = refl

-- Worked rows of the steps of a path, computed. What stands before the path is quoted first.
use Prim.Native.String.{String}
use Rattle.std.specs.Prelude.{◌≡◌, Bool, true, false, List, [], ◌∷◌, map, codes, refl}
use Rattle.iref_grammar.specs.{Contexts.{context_from}, PathValue.{spell_path, read_path}}
use Rattle.iref_grammar.specs.Guard.{guarded, guarded_list}
use Rattle.iref_grammar.specs.PathSteps.{lazy_pushed, pushed, popped, appended, lazy_appended, joined, replaced, cleared, from_segments}
use Rattle.iref_grammar.proofs.Rows.{path, after}

-- before the path, path; segment; result
abbrev lazy_pushes : List (String × String × String × String)
lazy_pushes =
    ("", "", "", "./")
    ∷ ("", "/", "", "/./")
    ∷ ("//h", "", "", "/./")
    ∷ ("//h", "", "foo", "/foo")
    ∷ ("", "foo/", "", "foo//")
    ∷ ("", "a/b/c/", "d", "a/b/c//d")
    ∷ ("", "", "a:b", "./a:b")
    ∷ ("s:", "", "a:b", "a:b")
    ∷ ("", "/", "a:b", "/a:b")
    ∷ ("", "a", "..", "a/..")
    ∷ []

lazy_pushes_hold :
    map (λ row. spell_path (lazy_pushed (after row.0) (codes row.2) (path row.1))) lazy_pushes ≡ map (λ row. codes row.3) lazy_pushes
unfolding context_from spell_path read_path guarded lazy_pushed
lazy_pushes_hold = refl

-- before the path, path; segment; result
abbrev pushes : List (String × String × String × String)
pushes =
    ("", "foo/bar", "..", "foo/")
    ∷ ("", "foo/bar", ".", "foo/bar/")
    ∷ ("", "", "..", "../")
    ∷ ("", "", ".", "")
    ∷ ("", "/", "..", "/")
    ∷ ("", "a", "%2E%2E", "a/%2E%2E")
    ∷ ("x//h", "/p", "q", "/p/q")
    ∷ ("https://rust-lang.org", "/a/b/c", "", "/a/b/c/")
    ∷ []

pushes_hold : map (λ row. spell_path (pushed (after row.0) (codes row.2) (path row.1))) pushes ≡ map (λ row. codes row.3) pushes
unfolding context_from spell_path read_path guarded guarded_list lazy_pushed popped pushed
pushes_hold = refl

-- before the path, path; result
abbrev pops : List (String × String × String)
pops =
    ("", "", "..")
    ∷ ("", "/", "/")
    ∷ ("", "/..", "/../..")
    ∷ ("", "../..", "../../..")
    ∷ ("", "foo", "")
    ∷ ("", "foo/bar/", "foo/bar")
    ∷ ("", "a/%2E%2E", "a")
    ∷ ("", "//", "/./")
    ∷ ("http://h", "//a", "/./")
    ∷ ("//h", "", "/..")
    ∷ []

pops_hold : map (λ row. spell_path (popped (after row.0) (path row.1))) pops ≡ map (λ row. codes row.2) pops
unfolding context_from spell_path read_path guarded guarded_list lazy_pushed popped
pops_hold = refl

-- path; segments of a path, as items; appended, appended lazily
abbrev appends : List (String × String × String × String)
appends =
    ("/foo/bar", "../baz", "/foo/baz", "/foo/bar/../baz")
    ∷ ("/a/b/.", "../", "/a/b/", "/a/b/./../")
    ∷ ("/a/.", "", "/a/.", "/a/.")
    ∷ ("/a", "b/c/..", "/a/b/", "/a/b/c/..")
    ∷ ("", "a:b", "./a:b", "./a:b")
    ∷ []

appends_hold :
    map (λ row. spell_path (appended (after "") (path row.1).segments (path row.0))) appends ≡ map (λ row. codes row.2) appends
unfolding context_from spell_path read_path guarded guarded_list lazy_pushed popped appended
appends_hold = refl

lazy_appends_hold :
    map (λ row. spell_path (lazy_appended (after "") (path row.1).segments (path row.0))) appends ≡ map (λ row. codes row.3) appends
unfolding context_from spell_path read_path guarded lazy_pushed lazy_appended
lazy_appends_hold = refl

-- before the path, path; new path; joined, replaced
abbrev joins : List (String × String × String × String × String)
joins =
    ("", "a/b", "//foo", "/.//foo", "/.//foo")
    ∷ ("", "a/b/c", "foo:bar", "a/b/c/foo:bar", "./foo:bar")
    ∷ ("", "../", "/foo:bar", "/foo:bar", "/foo:bar")
    ∷ ("//h", "", "foo", "/foo", "/foo")
    ∷ ("//h", "/", "//foo", "//foo", "//foo")
    ∷ ("http:", "old/path", "//foo/bar", "/.//foo/bar", "/.//foo/bar")
    ∷ ("", "x", "1:2", "x/1:2", "./1:2")
    ∷ ("", "x", "..", "", "..")
    ∷ []

joins_hold : map (λ row. spell_path (joined (after row.0) (path row.2) (path row.1))) joins ≡ map (λ row. codes row.3) joins
unfolding context_from spell_path read_path guarded guarded_list lazy_pushed popped appended joined
joins_hold = refl

replacements_hold : map (λ row. spell_path (replaced (after row.0) (path row.2) (path row.1))) joins ≡ map (λ row. codes row.4) joins
unfolding context_from spell_path read_path guarded
replacements_hold = refl

-- path; cleared
abbrev clears : List (String × String)
clears = ("/a/b", "/") ∷ ("a/b", "") ∷ ("", "") ∷ []

clears_hold : map (λ row. spell_path (cleared (path row.0))) clears ≡ map (λ row. codes row.1) clears
unfolding spell_path read_path
clears_hold = refl

-- whether absolute, items; the path of these segments
abbrev segment_lists : List (Bool × List String × String)
segment_lists =
    (true, "a" ∷ "b" ∷ ".." ∷ [], "/a/")
    ∷ (false, "a" ∷ "b" ∷ [], "a/b")
    ∷ (false, "a:b" ∷ [], "./a:b")
    ∷ (true, "" ∷ [], "/./")
    ∷ (false, ".." ∷ "a" ∷ [], "..//a")
    ∷ (false, [], "")
    ∷ (true, [], "/")
    ∷ []

segment_lists_hold : map (λ row. spell_path (from_segments row.0 (map codes row.1))) segment_lists ≡ map (λ row. codes row.2) segment_lists
unfolding spell_path guarded guarded_list lazy_pushed popped pushed from_segments
segment_lists_hold = refl

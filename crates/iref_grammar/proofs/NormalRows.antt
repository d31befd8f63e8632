-- Worked rows of normal lists, suffixes, dot-segment rewriting and counted equality, computed.
use Prim.Native.String.{String}
use Rattle.std.specs.Prelude.{◌≡◌, ℕ, Bool, true, false, nat_le, ◌&&◌, List, [], ◌∷◌, map, codes, Option, Some, None, option_map, if◌then◌else◌, refl}
use Rattle.percent_encoding.specs.Percent.{percent_decode}
use Rattle.iref_grammar.specs.{Rules.{Text}, Contexts.{alone, context_from}, PathValue.{spell_path, read_path}}
use Rattle.iref_grammar.specs.{Guard.{guarded}, NormalList.{normal_segments, excess, staying_names}}
use Rattle.iref_grammar.specs.NormalReading.{NormalRest, whole_rest, first_left, last_left, nothing_left}
use Rattle.iref_grammar.specs.{PathSteps.{normalized}, PathSuffix.{path_suffix}}
use Rattle.iref_grammar.specs.DotSegments.{Buffers, rewritten, dot_segments_removed}
use Rattle.iref_grammar.specs.CountedEquality.{paths_compared, segments_read}
use Rattle.iref_grammar.proofs.Rows.{path, after, spelled}

-- ---- normal paths

-- path; normalized alone
abbrev normal_paths : List (String × String)
normal_paths =
    ("a/..//b", ".//b")
    ∷ ("//b", "/.//b")
    ∷ ("/a/../", "/")
    ∷ ("a/../..", "../")
    ∷ ("a/b/../../../", "../")
    ∷ ("a/b/c/.", "a/b/c/")
    ∷ ("a/..", "")
    ∷ ("..", "../")
    ∷ (".", "")
    ∷ ("/./", "/")
    ∷ ("/%2E", "/%2E")
    ∷ ("a/../b:c", "./b:c")
    ∷ ("a/../../b/./c/..", "../b/")
    ∷ ("../../a/./b/../c/.", "../../a/c/")
    ∷ []

normal_paths_hold : map (λ row. spell_path (normalized alone (path row.0))) normal_paths ≡ map (λ row. codes row.1) normal_paths
unfolding spell_path read_path guarded normal_segments excess staying_names
normal_paths_hold = refl

-- after an authority the normal path is what `remove_dot_segments` leaves (the first is an example of RFC 3986 section 5.2.4)
abbrev normal_after_authority : List (String × String)
normal_after_authority =
    ("/a/b/c/./../../g", "/a/g")
    ∷ ("/../a", "/a")
    ∷ ("/a/./..", "/")
    ∷ ("/.", "/")
    ∷ ("/..", "/")
    ∷ ("/./", "/")
    ∷ ("//b", "//b")
    ∷ ("/a//../..", "/")
    ∷ ("/a/b/..", "/a/")
    ∷ ("/a/.", "/a/")
    ∷ ("/x/../../y/./z/..", "/y/")
    ∷ ("/a/../..//b/.", "//b/")
    ∷ []

normal_after_authority_hold :
    map (λ row. spell_path (normalized (after "//h") (path row.0))) normal_after_authority ≡ map (λ row. codes row.1) normal_after_authority
unfolding context_from spell_path read_path guarded normal_segments excess staying_names
normal_after_authority_hold = refl

rewriting_holds : map (λ row. dot_segments_removed (codes row.0)) normal_after_authority ≡ map (λ row. codes row.1) normal_after_authority
rewriting_holds = refl

-- the examples of RFC 3986 section 5.2.4, step by step: number of steps; input, output
abbrev absolute_steps : List (ℕ × String × String)
absolute_steps =
    (0, "/a/b/c/./../../g", "")
    ∷ (1, "/b/c/./../../g", "/a")
    ∷ (2, "/c/./../../g", "/a/b")
    ∷ (3, "/./../../g", "/a/b/c")
    ∷ (4, "/../../g", "/a/b/c")
    ∷ (5, "/../g", "/a/b")
    ∷ (6, "/g", "/a")
    ∷ (7, "", "/a/g")
    ∷ []

abbrev relative_steps : List (ℕ × String × String)
relative_steps =
    (0, "mid/content=5/../6", "")
    ∷ (1, "/content=5/../6", "mid")
    ∷ (2, "/../6", "mid/content=5")
    ∷ (3, "/6", "mid")
    ∷ (4, "", "mid/6")
    ∷ []

-- the buffers after this number of steps from the quoted input
abbrev buffers_after : String → ℕ → Buffers
buffers_after input steps = rewritten steps (record { input = codes input; output = [] })

abbrev buffers : String → String → Buffers
buffers input output = record { input = codes input; output = codes output }

absolute_steps_hold : map (λ row. buffers_after "/a/b/c/./../../g" row.0) absolute_steps ≡ map (λ row. buffers row.1 row.2) absolute_steps
absolute_steps_hold = refl

relative_steps_hold : map (λ row. buffers_after "mid/content=5/../6" row.0) relative_steps ≡ map (λ row. buffers row.1 row.2) relative_steps
relative_steps_hold = refl

-- ---- normal segments from both ends

abbrev End : Type 0
End = Bool

abbrev front : End
front = true

abbrev back : End
back = false

-- the item that is taken and what is left, or nothing
abbrev taken : Option (Text × NormalRest) → Option Text × NormalRest
taken None = (None, nothing_left)
taken (Some given) = (Some given.0, given.1)

abbrev taken_in_turn : List End → NormalRest → List (Option Text)
taken_in_turn [] rest = []
taken_in_turn (end ∷ ends) rest =
    let item = taken (if end then first_left rest else last_left rest) in item.0 ∷ taken_in_turn ends item.1

-- path; the ends that are read; the items
abbrev both_ends : List (String × List End × List (Option String))
both_ends =
    ("a/../../b/./c/..", front ∷ back ∷ front ∷ front ∷ back ∷ [], Some ".." ∷ Some "" ∷ Some "b" ∷ None ∷ None ∷ [])
    ∷ ("../../a/./b/../c/.", back ∷ front ∷ back ∷ back ∷ back ∷ back ∷ front ∷ [], Some "" ∷ Some ".." ∷ Some "c" ∷ Some "a" ∷ Some ".." ∷ None ∷ None ∷ [])
    ∷ ("/./", back ∷ front ∷ [], None ∷ None ∷ [])
    ∷ ("a/..", back ∷ front ∷ [], None ∷ None ∷ [])
    ∷ ("//b", back ∷ back ∷ back ∷ [], Some "b" ∷ Some "" ∷ None ∷ [])
    ∷ []

both_ends_hold : map (λ row. taken_in_turn row.1 (whole_rest (path row.0))) both_ends ≡ map (λ row. map (option_map codes) row.2) both_ends
unfolding read_path
both_ends_hold = refl

-- ---- suffixes

-- prefix, path; what is left
abbrev suffixes : List (String × String × Option String)
suffixes =
    ("/foo", "/foo/", Some "./")
    ∷ ("/", "//foo", Some ".//foo")
    ∷ ("/foo", "/foo", Some "")
    ∷ ("/f%6Fo", "/a/../foo/bar", Some "bar")
    ∷ ("a", "a/b:c", Some "./b:c")
    ∷ ("/foo/", "/foo/bar", None)
    ∷ ("/foo", "foo", None)
    ∷ []

suffixes_hold : map (λ row. spelled (path_suffix (path row.0) (path row.1))) suffixes ≡ map (λ row. option_map codes row.2) suffixes
unfolding spell_path read_path guarded normal_segments excess staying_names path_suffix percent_decode
suffixes_hold = refl

-- ---- equality, counted

-- path, path; whether they are equal; the least and the greatest number of segments that may be read for that
abbrev comparisons : List (String × String × Bool × ℕ × ℕ)
comparisons =
    ("../x", "%2E%2E/x", true, 4, 4)
    ∷ ("/./", "/", true, 2, 2)
    ∷ ("a/b/c", "a/../a/./b/../b/c", true, 11, 11)
    ∷ ("a/..", "", true, 2, 2)
    ∷ ("/a/x", "/a/y", false, 2, 4)
    ∷ ("/foo/bar", "/foo/bar/", false, 1, 5)
    ∷ ("/%2E", "/.", false, 1, 2)
    ∷ ("/%2F", "//", false, 1, 3)
    ∷ ("/a", "a", false, 0, 2)
    ∷ []

abbrev is_within : ℕ → ℕ → ℕ → Bool
is_within least greatest n = nat_le least n && nat_le n greatest

comparisons_hold : map (λ row. (paths_compared (path row.0) (path row.1)).equal) comparisons ≡ map (λ row. row.2) comparisons
unfolding read_path percent_decode
comparisons_hold = refl

counts_hold : map (λ row. is_within row.3 row.4 (segments_read (path row.0) (path row.1))) comparisons ≡ map (λ row. true) comparisons
unfolding read_path percent_decode
counts_hold = refl

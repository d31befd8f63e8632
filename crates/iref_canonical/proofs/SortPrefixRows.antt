-- Worked rows of sort prefixes and of what is below, computed (RFC 3986 section 5.2.4).
use Prim.Native.String.{String}
use Rattle.std.specs.Prelude.{◌≡◌, Bool, true, false, List, [], ◌∷◌, ◌++◌, ◌==◌, map, codes, encode_utf8_all, is_some, refl}
use Rattle.std.specs.{Char.{encode_utf8}, List.{starts_with}}
use Rattle.percent_encoding.specs.Percent.{percent_decode}
use Rattle.iref_grammar.specs.{Authority.{read_authority}, PathValue.{read_path}}
use Rattle.iref_grammar.specs.{Reference.{ReferenceValue, read_reference}, Rules.{Text}}
use Rattle.iref_grammar.specs.{Key.{key}, NormalList.{excess, normal_segments, staying_names}, PathKey.{path_key}}
use Rattle.iref_grammar.specs.{PathSuffix.{path_suffix}, ReferenceSuffix.{reference_suffix}}
use Rattle.iref_canonical.specs.SortKey.{sort_authority, sort_key, sort_path, sort_text}
use Rattle.iref_canonical.specs.SortPrefix.{is_between, sort_path_prefix, sort_prefix, sort_prefix_end}

abbrev value : String → ReferenceValue
value text = read_reference (encode_utf8_all (codes text))

-- reference; its sort prefix
abbrev rows : List (String × Text)
rows =
    ("", 0 ∷ 0 ∷ 0 ∷ [])
    ∷ ("/", 0 ∷ 0 ∷ 1 ∷ [])
    ∷ ("?q#f", 0 ∷ 0 ∷ 0 ∷ [])
    ∷ ("HTTP://h/x/../%61?q", 1 ∷ codes "http" ++ 0 ∷ 1 ∷ 0 ∷ codes "h" ++ 0 ∷ 0 ∷ 1 ∷ 1 ∷ codes "a" ++ 0 ∷ [])
    ∷ ("//h:1", 0 ∷ 1 ∷ 0 ∷ codes "h" ++ 0 ∷ 1 ∷ codes "1" ++ 0 ∷ 0 ∷ [])
    ∷ ("a/", 0 ∷ 0 ∷ 0 ∷ 1 ∷ codes "a" ++ 0 ∷ 1 ∷ 0 ∷ [])
    ∷ ("%00", 0 ∷ 0 ∷ 0 ∷ 1 ∷ 1 ∷ 1 ∷ 0 ∷ [])
    ∷ []

pub rows_hold : map (λ row. sort_prefix (key (value row.0))) rows ≡ map (λ row. row.1) rows
unfolding sort_text sort_path sort_path_prefix sort_authority sort_prefix key path_key normal_segments excess staying_names read_reference
    read_authority read_path percent_decode encode_utf8
rows_hold = refl

-- whether a reference is below another: by what is left of it, by a range, and by a beginning
abbrev is_below : String × String → Bool × Bool × Bool
is_below (prefix, text) =
    let q = value prefix in
    let sorted = sort_key (key (value text)) in (
      is_some (reference_suffix q (value text)),
      is_between (sort_prefix (key q)) (sort_prefix_end (key q)) sorted,
      starts_with ◌==◌ sorted (sort_prefix (key q)),
    )

abbrev pairs : List (String × String × Bool)
pairs =
    ("http://h/docs", "http://h/docs", true)
    ∷ ("http://h/docs", "http://h/docs/a", true)
    ∷ ("http://h/docs", "http://h/docs?q", true)
    ∷ ("http://h/docs", "HTTP://h/x/../docs/", true)
    ∷ ("http://h/docs", "http://h/docs/%00", true)
    ∷ ("http://h/docs", "http://h/docs/é", true)
    ∷ ("http://h/docs", "http://h/docsx", false)
    ∷ ("http://h/docs", "http://h/docs%00", false)
    ∷ ("http://h/docs", "http://h/doc", false)
    ∷ ("http://h/docs", "http://h:/docs/a", false)
    ∷ ("http://h/docs", "http://h/docs/../a", false)
    ∷ ("http://h/docs/", "http://h/docs/a", false)
    ∷ ("http://h/docs/", "http://h/docs//a", true)
    ∷ ("http://h/", "http://h/a", true)
    ∷ ("http://h/", "http://h/?q", true)
    ∷ ("http://h/", "http://h", false)
    ∷ ("http://h/", "http://h.org/a", false)
    ∷ ("http://h", "http://h", true)
    ∷ ("http://h", "http://h?q", true)
    ∷ ("http://h", "http://h/", false)
    ∷ ("", "a/b", true)
    ∷ ("", "/a", false)
    ∷ ("..", "../a", false)
    ∷ ("../a", "b/../../a/c", true)
    ∷ []

pub pairs_hold : map (λ (prefix, text, below). is_below (prefix, text)) pairs ≡ map (λ (prefix, text, below). (below, below, below)) pairs
unfolding sort_text sort_path sort_path_prefix sort_authority sort_prefix sort_key key path_key normal_segments excess staying_names
    reference_suffix path_suffix read_reference read_authority read_path percent_decode encode_utf8
pairs_hold = refl

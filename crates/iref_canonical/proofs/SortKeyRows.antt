-- Worked rows of sort keys, computed (RFC 3986 section 6.2.2).
use Prim.Native.String.{String}
use Rattle.std.specs.Prelude.{◌≡◌, Bool, true, ◌&&◌, List, [], ◌∷◌, ◌++◌, map, codes, encode_utf8_all, refl}
use Rattle.std.specs.{Char.{encode_utf8}, Ordering.{is_lt}}
use Rattle.percent_encoding.specs.Percent.{percent_decode}
use Rattle.iref_grammar.specs.{Rules.{Text}, Keys.{text_order}, Authority.{read_authority}, PathValue.{read_path}}
use Rattle.iref_grammar.specs.Reference.{read_reference}
use Rattle.iref_grammar.specs.{NormalList.{normal_segments, excess, staying_names}, PathKey.{path_key}, Key.{key}}
use Rattle.iref_canonical.specs.SortKey.{sort_text, sort_path, sort_authority, sort_key}

abbrev sorted : String → Text
sorted text = sort_key (key (read_reference (encode_utf8_all (codes text))))

-- a text without the bytes 0 and 1, and its end
abbrev ended : String → Text
ended text = encode_utf8_all (codes text) ++ 0 ∷ []

-- there is no such component
abbrev none : Text
none = 0 ∷ []

-- the sort key of a component that is there
abbrev some : String → Text
some text = 1 ∷ ended text

-- the items of a path after the flag
abbrev items : List String → Text
items [] = 0 ∷ []
items (item ∷ rest) = some item ++ items rest

-- reference; its sort key
abbrev rows : List (String × Text)
rows =
    ("HTTP://a/%7Eb/./c", some "http" ++ (1 ∷ none ++ ended "a" ++ none) ++ (1 ∷ items ("~b" ∷ "c" ∷ [])) ++ none ++ none)
    ∷ ("..", none ++ none ++ (0 ∷ items (".." ∷ "" ∷ [])) ++ none ++ none)
    ∷ ("http://a/%00?#", some "http" ++ (1 ∷ none ++ ended "a" ++ none) ++ (1 ∷ 1 ∷ 1 ∷ 1 ∷ 0 ∷ 0 ∷ []) ++ some "" ++ some "")
    ∷ ("", none ++ none ++ (0 ∷ items []) ++ none ++ none)
    ∷ ("/", none ++ none ++ (1 ∷ items []) ++ none ++ none)
    ∷ ("?%00%01", none ++ none ++ (0 ∷ items []) ++ (1 ∷ 1 ∷ 1 ∷ 1 ∷ 2 ∷ 0 ∷ []) ++ none)
    ∷ ("//u:p@h:080", none ++ (1 ∷ some "u:p" ++ ended "h" ++ some "080") ++ (0 ∷ items []) ++ none ++ none)
    ∷ ("//h:", none ++ (1 ∷ none ++ ended "h" ++ some "") ++ (0 ∷ items []) ++ none ++ none)
    ∷ ("//@", none ++ (1 ∷ some "" ++ ended "" ++ none) ++ (0 ∷ items []) ++ none ++ none)
    ∷ ("a//é#x", none ++ none ++ (0 ∷ items ("a" ∷ "" ∷ "é" ∷ [])) ++ none ++ some "x")
    ∷ ("a/%C3%A9/../", none ++ none ++ (0 ∷ items ("a" ∷ "" ∷ [])) ++ none ++ none)
    ∷ []

pub rows_hold : map (λ row. sorted row.0) rows ≡ map (λ row. row.1) rows
unfolding sort_text sort_path sort_authority sort_key key path_key normal_segments excess staying_names read_reference read_authority read_path
    percent_decode encode_utf8
rows_hold = refl

-- whether each sort key comes before the next
abbrev ascends : List String → Bool
ascends [] = true
ascends (a ∷ []) = true
ascends (a ∷ b ∷ more) = is_lt (text_order (sorted a) (sorted b)) && ascends (b ∷ more)

-- references that ascend
abbrev ascending : List String
ascending =
    "" ∷ "?" ∷ "?%00" ∷ "?%00%00" ∷ "?%00%01" ∷ "?%01" ∷ "?%02" ∷ ".." ∷ "a" ∷ "a?" ∷ "a/" ∷ "a/b" ∷ "a/b/" ∷ "a%00" ∷ "a%01" ∷ "a%02" ∷ "a0" ∷ "b"
    ∷ "/" ∷ "/a" ∷ "//h" ∷ "//h:" ∷ "//h:1" ∷ "//h%00" ∷ "//@h" ∷ "s:" ∷ []

pub ascending_holds : ascends ascending ≡ true
unfolding sort_text sort_path sort_authority sort_key key path_key normal_segments excess staying_names read_reference read_authority read_path
    percent_decode encode_utf8
ascending_holds = refl

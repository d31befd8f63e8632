-- What is left of a path after a prefix, by normal lists.
use Rattle.std.specs.Prelude.{Bool, false, ◌&&◌, List, length, take, drop, bytes_eq, Option, Some, None, if◌then◌else◌}
use Rattle.std.specs.Cmp.Lexicographic.{pointwise}
use Rattle.percent_encoding.specs.Percent.{percent_decode}
use Rattle.iref_grammar.specs.{Rules.{Text}, PathValue.{PathValue}, Contexts.{alone}}
use Rattle.iref_grammar.specs.{Guard.{guarded}, NormalList.{normal_segments}}
use mathlib.Core.Bool.{beq}

-- the same bytes after decoding
abbrev pub same_decoded : Text → Text → Bool
same_decoded s t = bytes_eq (percent_decode s) (percent_decode t)

-- prefix is a beginning of list, segment by segment after decoding
abbrev pub is_decoded_beginning : List Text → List Text → Bool
is_decoded_beginning prefix list = pointwise same_decoded prefix (take (length prefix) list)

unfoldable pub path_suffix : PathValue → PathValue → Option PathValue
path_suffix prefix p =
    if beq prefix.absolute p.absolute && is_decoded_beginning (normal_segments prefix) (normal_segments p)
    then Some (guarded alone (record { absolute = false; segments = drop (length (normal_segments prefix)) (normal_segments p) }))
    else None

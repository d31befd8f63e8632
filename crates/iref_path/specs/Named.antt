-- The normal list of segments among which no `..` is.
use Rattle.std.specs.Prelude.{ℕ, ◌+◌, Bool, false, ◌&&◌, List, [], ◌∷◌, ◌==◌, Option, Some, None, if◌then◌else◌}
use Rattle.iref_grammar.specs.{Grammar.{percent_sign, slash}, Rules.{Text}, Texts.{is_empty}}
use Rattle.iref_grammar.specs.NormalList.{is_dot}

-- the segments but `.`, which closes the list with an empty one where it comes last
abbrev pub named : List Text → List Text
named [] = []
named (s ∷ rest) = if is_dot s then (if is_empty rest then [] ∷ [] else named rest) else s ∷ named rest

-- the text begins with `./`
abbrev pub begins_with_dot_slash : Text → Bool
begins_with_dot_slash [] = false
begins_with_dot_slash (c ∷ []) = false
begins_with_dot_slash (c ∷ d ∷ cs) = c == 0x2E && d == slash

-- what follows the bytes that two texts have in common before any `%`, as it counts in the order of their segments: the end,
-- a `/`, another byte, or an escape, of which the order is not known
abbrev pub rank : Text → Option ℕ
rank [] = Some 0
rank (c ∷ cs) = if c == percent_sign then None else (if c == slash then Some 1 else Some (2 + c))

-- The steps that lead up and down: a number of `..`, and the last items of a normal list.
use Rattle.std.specs.Prelude.{ℕ, ◌-◌, Bool, false, List, [], ◌∷◌, ◌++◌, codes, drop, length, replicate, if◌then◌else◌}
use Rattle.std.specs.List.{common_prefix_len}
use Rattle.iref_grammar.specs.{Rules.{Text}, Grammar.{slash}, Texts.{all_but_last, pieces_at}, Contexts.{alone}}
use Rattle.iref_grammar.specs.PathValue.{PathValue}
use Rattle.iref_grammar.specs.{Guard.{guarded}, NormalList.{normal, normal_segments}}
use Rattle.iref_grammar.specs.{Relative.{directory_names, last_or_empty, steps_between}, Relativized.{steps_by_text}}

-- the last items of a list, this many
abbrev pub last_ones : ℕ → List Text → List Text
last_ones count list = drop (length list - count) list

-- the list, and one empty item where it has none
abbrev pub with_last : List Text → List Text
with_last list = all_but_last list ++ last_or_empty list ∷ []

-- the segments that lead from a directory to a list: up to what they have in common by a test, and down
abbrev pub steps_with : (Text → Text → Bool) → List Text → List Text → List Text
steps_with same directory list =
    let common = common_prefix_len same directory (all_but_last list) in
    replicate (length directory - common) (codes "..") ++ drop common (all_but_last list) ++ last_or_empty list ∷ []

-- those that lead from the directory of one text of segments to another text
abbrev pub text_steps_with : (Text → Text → Bool) → Text → Text → List Text
text_steps_with same base path = steps_with same (all_but_last (pieces_at slash base)) (pieces_at slash path)

-- where segments are the same that decode to the same bytes
abbrev pub text_steps : Text → Text → List Text
text_steps base path = steps_between (all_but_last (pieces_at slash base)) (pieces_at slash path)

-- where only the same texts are
abbrev pub text_steps_by_text : Text → Text → List Text
text_steps_by_text base path = steps_by_text (all_but_last (pieces_at slash base)) (pieces_at slash path)

-- the path that leads from a base's to this one
abbrev pub path_between : PathValue → PathValue → PathValue
path_between base p =
    guarded alone
    (if base.absolute
    then record { absolute = false; segments = steps_between (directory_names base) (normal_segments p) }
    else normal p)

-- The steps in which code cuts a text.
use Rattle.std.specs.Prelude.{ℕ, ◌+◌, ◌==◌, ◌||◌, Bool, List, [], ◌∷◌, ◌++◌, length, codes, Option, is_some, if◌then◌else◌}
use Rattle.std.specs.Char.{char_set_contains}
use Rattle.iref_grammar.specs.{Rules.{Text}, Grammar.{colon, right_bracket}, Texts.{part_then, then_part}}
use Rattle.iref_grammar.specs.Reference.{split_authority}
use Rattle.iref_fault.specs.Places.{PartRule, Scheme, Path, BarePath}
use Rattle.iref_fault.specs.Cut.{Piece, piece, piece_if, authority_pieces_if, cut_scheme}

-- what follows the last `]`, or all of the text
abbrev pub after_last : Text → Text
after_last [] = []
after_last (c ∷ cs) = if char_set_contains cs right_bracket then after_last cs else (if c == right_bracket then cs else c ∷ cs)

-- of a path, which stands alone where nothing stands before it
abbrev pub path_rule : Bool → PartRule
path_rule follows = if follows then Path else BarePath

-- the pieces behind a scheme, if there is one, and before the query and the fragment
abbrev pub pieces_after_scheme : ℕ → Option Text → Text → List Piece
pieces_after_scheme start scheme text =
    let middle = split_authority text in
    authority_pieces_if (start + 2) middle.0
    ++ piece (path_rule (is_some scheme || is_some middle.0)) (start + length (then_part (codes "//") middle.0)) middle.1

-- the pieces of what stands before the query and the fragment
abbrev pub hierarchy_pieces : Text → List Piece
hierarchy_pieces text =
    let front = cut_scheme text in
    piece_if Scheme 0 front.0 ++ pieces_after_scheme (length (part_then (colon ∷ []) front.0)) front.0 front.1

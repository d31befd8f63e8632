-- Lines of a text, and replies to them.
use Rattle.std.proofs.Common.{◌≡◌, false, List, [], ◌∷◌, ◌++◌, length, ◌<◌, refl, ◌∙◌, append-nil, arith}
use Rattle.std.proofs.{lemmas.Grind.{common_steps}, lemmas.List.{flat_map_more}}
use Rattle.std.proofs.lemmas.List.Splits.{slice_split_at, slice_split_none, length-slice_split}
use Rattle.std.proofs.lemmas.List.Elements.{All-head, All-tail, All-push}
use Rattle.std.specs.List.{All}
use Rattle.iref.specs.{Rules.{Text}, Texts.{pieces_at, is_empty}}
use Rattle.iref_batch.specs.{Lines.{newline, lines_of, without_empty_last}, Runs.{with_newlines, ended_lines}}
use Rattle.iref_batch.specs.Gathering.{IsLine}
use Rattle.iref_batch.proofs.OutputLemmas.{without_empty_last-append}
use Rattle.iref.proofs.DirectoryLemmas.{all_but_last-snoc}

pieces_of_lines : (lines : List Text) (rest : Text) → All IsLine lines → pieces_at newline (with_newlines lines ++ rest) ≡ lines ++ pieces_at newline rest
pieces_of_lines [] rest h = refl
pieces_of_lines (line ∷ lines) rest h = grind (arith, common_steps, slice_split_at, All-head IsLine line lines h, pieces_of_lines lines rest (All-tail IsLine line lines h))

pub ended_lines_of : (lines : List Text) (begun : Text) → All IsLine lines → IsLine begun → ended_lines (with_newlines lines ++ begun) ≡ lines
ended_lines_of lines begun h l = grind (arith, pieces_of_lines, slice_split_none, all_but_last-snoc)

-- a text has one piece at least
lines-append : (lines pieces : List Text) → 0 < length pieces → without_empty_last (lines ++ pieces) ≡ lines ++ without_empty_last pieces
lines-append lines [] h = absurd (omega arith)
lines-append lines (piece ∷ pieces) h = without_empty_last-append lines piece pieces

pub lines_of_lines : (lines : List Text) (rest : Text) → All IsLine lines → lines_of (with_newlines lines ++ rest) ≡ lines ++ lines_of rest
lines_of_lines lines rest h = grind (arith, pieces_of_lines, lines-append, length-slice_split)

pub lines_of_ended : (lines : List Text) → All IsLine lines → lines_of (with_newlines lines ++ []) ≡ lines
lines_of_ended lines h = lines_of_lines lines [] h ∙ append-nil lines

pub lines_of_begun : (lines : List Text) (begun : Text) → All IsLine lines → IsLine begun → is_empty begun ≡ false → lines_of (with_newlines lines ++ begun) ≡ lines ++ begun ∷ []
lines_of_begun lines begun h l e = grind (arith, lines_of_lines, slice_split_none)

-- the lines of a text that goes on after a whole line
pub lines_of_next : (lines : List Text) (line rest : Text) → All IsLine lines → IsLine line → lines_of (with_newlines lines ++ (line ++ newline ∷ rest)) ≡ (lines ++ line ∷ []) ++ lines_of rest
lines_of_next lines line rest h l = grind (arith, common_steps, flat_map_more, All-push, lines_of_lines (lines ++ line ∷ []) rest)

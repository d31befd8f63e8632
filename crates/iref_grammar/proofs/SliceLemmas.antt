-- Slices of a text that end at a delimiter.
use Rattle.std.proofs.{Common.{◌≡◌, ℕ, ◌<◌, [], ◌∷◌, ◌++◌, length, refl, arith, ◌==◌, Option, Some, None}, lemmas.Grind.{common_steps}}
use Rattle.std.specs.{Str.{IsCharBoundary}, List.{position_or_len}}
use Rattle.iref_grammar.specs.{Rules.{Text}, Texts.{then_part, pieces_at}}

-- a text may be cut before an ASCII delimiter, and at its end
pub mark_boundary : (mark : ℕ) (front : Text) (back : Option Text) (text : Text) → mark < 128 → front ++ then_part (mark ∷ []) back ≡ text → IsCharBoundary text (length front)
mark_boundary mark front None text m e = grind (arith, common_steps)
mark_boundary mark front (Some back) text m e = grind (arith, common_steps)

-- a text without the delimiter is its one piece
pub pieces_at-whole : (mark : ℕ) (text : Text) → position_or_len (λ b. b == mark) text ≡ length text → pieces_at mark text ≡ text ∷ []
pieces_at-whole mark [] h = refl
pieces_at-whole mark (c ∷ cs) h = grind (arith, pieces_at-whole mark cs)

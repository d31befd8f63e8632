-- The output of an input that is cut where a line ends.
use Rattle.std.proofs.Common.{arith, ◌≡◌, List, [], ◌∷◌, ◌++◌, refl, sym, ◌∙◌, ap, append_assoc, append-nil}
use Rattle.std.proofs.{lemmas.Grind.{common_steps}, lemmas.List.Concat.{flat_map-append}}
use Rattle.iref.specs.{Characters.{CharTests}, Rules.{Text}, Texts.{pieces_at}}
use Rattle.iref_grammar.proofs.PieceLemmas.{pieces-append, some_piece}
use Rattle.iref_batch.specs.Lines.{Verbs, newline, without_empty_last, lines_of, output}

pub without_empty_last-append : (lines : List Text) (line : Text) (rest : List Text) → without_empty_last (lines ++ line ∷ rest) ≡ lines ++ without_empty_last (line ∷ rest)
without_empty_last-append [] line rest = refl
without_empty_last-append (l ∷ []) line rest = refl
without_empty_last-append (l ∷ k ∷ lines) line rest = ap (λ (t : List Text). l ∷ t) (without_empty_last-append (k ∷ lines) line rest)

-- the lines of a text that goes on after a newline
lines_of-after : (first rest : Text) → lines_of (first ++ newline ∷ rest) ≡ pieces_at newline first ++ lines_of rest
lines_of-after first rest =
    let some = some_piece newline rest in
    ap without_empty_last (pieces-append newline first rest ∙ ap (λ ps. pieces_at newline first ++ ps) some.2)
    ∙ without_empty_last-append (pieces_at newline first) some.0 some.1
    ∙ sym (ap (λ ps. pieces_at newline first ++ without_empty_last ps) some.2)

pub lines_of-cut : (first second : Text) → lines_of ((first ++ newline ∷ []) ++ second) ≡ lines_of (first ++ newline ∷ []) ++ lines_of second
lines_of-cut first second = grind (arith, common_steps, append_assoc, lines_of-after, append-nil)

pub output_cut : (set : CharTests) (verbs : Verbs) (first second : Text) → output set verbs ((first ++ newline ∷ []) ++ second) ≡ output set verbs (first ++ newline ∷ []) ++ output set verbs second
unfolding output
output_cut set verbs first second = grind (arith, common_steps, lines_of-cut, flat_map-append)

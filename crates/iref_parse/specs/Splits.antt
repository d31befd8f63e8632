-- A text in two parts.
use Rattle.std.specs.Prelude.{ℕ, ◌≡◌, [], ◌∷◌}
use Rattle.iref_grammar.specs.{Rules.{Text}, Texts.{before, from_first}}

-- this is what stands before the first of two delimiters, and the rest is the text from there on
pub record SplitsBefore (first second : ℕ) (text head rest : Text) : Type 0 where
  pub front : head ≡ before (first ∷ second ∷ []) text
  pub back : rest ≡ from_first (first ∷ second ∷ []) text

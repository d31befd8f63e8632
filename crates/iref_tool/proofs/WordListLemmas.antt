-- Words that are read one after the other, by a loop over their indexes.
use Rattle.std.proofs.{Common.{Bor, ◌≡◌, ◌+◌, ◌<◌, ◌≤◌, ◌∷◌, ℕ, List, [], Result, Ok, Err, ap, ◌∙◌, arith, drop, length, map, slice_index_or}, lemmas.Grind.{common_steps}}
use Rattle.iref.specs.Rules.{Text}
use Rattle.iref_tool.specs.Replies.{WrongWord, and_then, read_all}

abbrev pub texts : List (Bor Text) → List Text
texts words = map (λ word. word.now) words

next_word : (words : List (Bor Text)) (i : ℕ) (other : Bor Text) → i < length words → texts (drop i words) ≡ (slice_index_or words i other).now ∷ texts (drop (i + 1) words)
next_word words i other under =
    let dropped : drop i words ≡ slice_index_or words i other ∷ drop (i + 1) words = grind (arith, common_steps) in
    ap texts dropped

no_word : (words : List (Bor Text)) (i : ℕ) → length words ≤ i → texts (drop i words) ≡ []
no_word words i over = grind (arith, common_steps)

-- the words before the index were read
module _ {A : Type 0} (step : A → Text → Result A WrongWord) (first read : A) (words : List (Bor Text)) (i : ℕ) (inv : read_all step first (texts words) ≡ read_all step read (texts (drop i words))) where
  pub all_read : length words ≤ i → read_all step first (texts words) ≡ Ok read
  unfolding read_all
  all_read over = inv ∙ ap (read_all step read) (no_word words i over)

  module _ (other : Bor Text) (under : i < length words) where
    pub one_more : (new : A) → step read (slice_index_or words i other).now ≡ Ok new → read_all step first (texts words) ≡ read_all step new (texts (drop (i + 1) words))
    unfolding read_all
    one_more new now = inv ∙ ap (read_all step read) (next_word words i other under) ∙ ap (and_then (λ more. read_all step more (texts (drop (i + 1) words)))) now

    pub stopped : (wrong : WrongWord) → step read (slice_index_or words i other).now ≡ Err wrong → read_all step first (texts words) ≡ Err wrong
    unfolding read_all
    stopped wrong now = inv ∙ ap (read_all step read) (next_word words i other under) ∙ ap (and_then (λ more. read_all step more (texts (drop (i + 1) words)))) now

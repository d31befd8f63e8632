-- The steps from one text of segments to another: what both begin with does not count.
use Rattle.std.proofs.Common.{length-append, ◌≡◌, ℕ, ◌+◌, ◌*◌, ◌<◌, true, false, List, [], ◌∷◌, ◌++◌, length, refl, arith, append_assoc, ◌==◌, Bool, codes, count_by, replicate}
use Rattle.std.proofs.{lemmas.Bool.Decides.{nat_tests}, lemmas.List.Splits.{length-slice_split}}
use Rattle.std.specs.List.{common_prefix_len, join_with_byte}
use Rattle.iref_grammar.specs.{Rules.{Text}, Grammar.{slash}, Texts.{all_but_last, pieces_at}}
use Rattle.iref_grammar.proofs.TextLemmas.{join-pieces_at}
use Rattle.iref_grammar.proofs.{LeadingLemmas.{divided_last}, PieceLemmas.{some_piece}}
use Rattle.iref_path.specs.{Bodies.{parents_then}, Spelling.{each_closed}, StepsBetween.{steps_with, text_steps_with}}
use Rattle.iref_path.proofs.SpellLemmas.{length-joined, size-append, size-parents, length-join}

module _ (same : Text → Text → Bool) where
  -- equal first segments do not count
  steps-behind : (s t p : Text) (d ps : List Text) → same s t ≡ true → steps_with same (s ∷ d) (t ∷ p ∷ ps) ≡ steps_with same d (p ∷ ps)
  steps-behind s t p d ps h = grind arith

  -- ---- the texts

  module _ (base path : Text) where
    abbrev pub climbed : Type 0
    climbed = text_steps_with same base path ≡ replicate (length (all_but_last (pieces_at slash base))) (codes "..") ++ pieces_at slash path

    apart_by : (p : Text) (ps : List Text) → pieces_at slash path ≡ p ∷ ps → common_prefix_len same (all_but_last (pieces_at slash base)) (all_but_last (p ∷ ps)) ≡ 0 → climbed
    apart_by p ps k h = grind (arith, append_assoc, divided_last p ps)

    -- the base is one segment
    pub apart-base : (s : Text) → pieces_at slash base ≡ s ∷ [] → climbed
    apart-base s h = let some = some_piece slash path in grind (arith, apart_by some.0 some.1)

    module _ (s t below rest : Text) (h : pieces_at slash base ≡ s ∷ pieces_at slash below) (k : pieces_at slash path ≡ t ∷ pieces_at slash rest) where
      -- the first segments are the same
      pub behind : same s t ≡ true → text_steps_with same below rest ≡ text_steps_with same base path
      behind equal = grind (arith, some_piece slash below, some_piece slash rest, steps-behind)

      -- they are not
      pub apart-first : same s t ≡ false → climbed
      apart-first other = grind (arith, some_piece slash below, some_piece slash rest, apart_by)

-- what follows the first segment is shorter
pub shorter : (text s rest : Text) → pieces_at slash text ≡ s ∷ pieces_at slash rest → length rest < length text
shorter text s rest h = grind (arith, append_assoc, length-append, nat_tests, some_piece slash rest, join-pieces_at slash text, join-pieces_at slash rest)

-- the directory of a text has as many segments as the text has slashes
directory_size : (s : Text) (rest : List Text) → length (all_but_last (s ∷ rest)) ≡ length rest
directory_size s [] = refl
directory_size s (t ∷ rest) = grind (arith, directory_size t rest)

pub climbs : (text : Text) → length (all_but_last (pieces_at slash text)) ≡ count_by (λ c. c == slash) text
climbs text = grind (arith, some_piece slash text, length-slice_split (λ c. c == slash) text, directory_size)

-- ---- the text of a number of `..` and of segments

closed_then : (front : List Text) (s : Text) (rest : List Text) → each_closed front ++ join_with_byte slash (s ∷ rest) ≡ join_with_byte slash (front ++ s ∷ rest)
closed_then [] s rest = refl
closed_then (t ∷ []) s rest = grind (arith, append_assoc)
closed_then (t ∷ u ∷ front) s rest = grind (arith, append_assoc, closed_then (u ∷ front) s rest)

pub up_length : (up : ℕ) (text : Text) → length (parents_then up text) ≡ 3 * up + length text
up_length up text = grind (arith, append_assoc, length-append, nat_tests, size-parents)

pub up-joined : (up : ℕ) (path : Text) → parents_then up path ≡ join_with_byte slash (replicate up (codes "..") ++ pieces_at slash path)
up-joined up path = grind (arith, some_piece slash path, join-pieces_at slash path, closed_then (replicate up (codes "..")))

pub up-size : (up : ℕ) (path : Text) → length (parents_then up path) + 1 ≡ length (each_closed (replicate up (codes "..") ++ pieces_at slash path))
up-size up path = grind (arith, up_length, size-append, size-parents, some_piece slash path, length-joined, join-pieces_at slash path)

pub ruleset sizes = (length-join, up_length)

pub ruleset apart = (apart-base, apart-first, behind, shorter)

-- A part after an edit within it.
use Rattle.std.proofs.Common.{◌≡◌, ℕ, ◌+◌, ◌-◌, ◌≤◌, List, [], ◌∷◌, Option, length, ◌∙◌, length-append, length-take, length-drop, arith, rules}
use Rattle.std.proofs.{lemmas.Grind.{common_steps}, lemmas.List.{places, same_lists}}
use Rattle.std.specs.{List.{splice, slice_range}, Str.{IsCharBoundary}, declared.ops.Range.{Range}}
use Rattle.iref_grammar.specs.{Rules.{Text}, Texts.{part_then}}
use Rattle.iref_splice.specs.{Changes.{IsWithin, part_at, with_mark}, declared.change.Span.{Span}}

splice-within : (bs text : List ℕ) (start end from to : ℕ) → start ≤ from → from ≤ to → to ≤ end → end ≤ length bs → splice bs from to text ≡ splice bs start end (splice (slice_range bs start end) (from - start) (to - start) text)
splice-within bs text start end from to h1 h2 h3 h4 = same_lists _ _ (search (rules, places)) (λ k d h. grind (arith, places))

pub slice-length : (bs : List ℕ) (start end : ℕ) → end ≤ length bs → length (slice_range bs start end) ≡ end - start
slice-length bs start end h = simp (length-take, length-drop) (omega arith)

-- what was put in a range of the part is put in the part
pub part_put : (text new pieces : List ℕ) (start end from to : ℕ) → start ≤ end → end ≤ length text → from ≤ to → to ≤ length (slice_range text start end) → new ≡ splice text (start + from) (start + to) pieces
    → new ≡ splice text start end (splice (slice_range text start end) from to pieces)
part_put text new pieces start end from to a b c d e =
    let fits : start + to ≤ end = omega (arith, slice-length text start end b) in
    let back : (n : ℕ) → start + n - start ≡ n = λ n. omega arith in
    e ∙ splice-within text pieces start end (start + from) (start + to) (omega arith) (omega arith) fits b
    ∙ (λ i. splice text start end (splice (slice_range text start end) (back from i) (back to i) pieces))

slice-spliced : (text part : List ℕ) (start end : ℕ) → start ≤ end → end ≤ length text → slice_range (splice text start end part) start (start + length part) ≡ part
slice-spliced text part start end a b = same_lists _ _ (search (rules, places)) (λ k d h. grind (arith, places))

length-spliced : (bs text : List ℕ) (start end : ℕ) → start ≤ end → end ≤ length bs → length (splice bs start end text) + end ≡ length bs + start + length text
length-spliced bs text start end h1 h2 = simp (length-append, length-take, length-drop) (omega arith)

-- the part ends before what stands behind it, which stays as long as it is
pub part_end : (text new part : List ℕ) (start end len new_len : ℕ) → start ≤ end → end ≤ length text → len ≡ length text → new_len ≡ length new → new ≡ splice text start end part
    → (len - end ≤ new_len) × (new_len - (len - end) ≡ start + length part)
part_end text new part start end len new_len a b c d e =
    let size : length new + end ≡ length text + start + length part = rw e (length-spliced text part start end a b) in
    (omega arith, omega arith)

-- a part that is all of a text is within it
pub whole_is_within : {start end n : ℕ} → start ≡ 0 → end ≡ n → (start ≤ end) × (end ≤ n)
whole_is_within from to = (omega (arith, from), omega (arith, to))

-- where the part stands then
pub record StandsThere (new part : List ℕ) (start new_end : ℕ) : Type 0 where
  pub start_le_end : start ≤ new_end
  pub in_bounds : new_end ≤ length new
  pub holds : slice_range new start new_end ≡ part

pub part_stands : (text new part : List ℕ) (start end new_end : ℕ) → start ≤ end → end ≤ length text → new ≡ splice text start end part → new_end ≡ start + length part → StandsThere new part start new_end
part_stands text new part start end new_end a b e f = record {
  start_le_end = omega arith;
  in_bounds = rw e (omega (arith, f, length-spliced text part start end a b));
  holds = rw (e, f) (slice-spliced text part start end a b);
}

-- what stands in a part may be cut where the part may
cut_in_part : (text : Text) (start end i : ℕ) → start ≤ end → IsCharBoundary text end → IsCharBoundary (slice_range text start end) i → IsCharBoundary text (start + i)
cut_in_part text start end i a b w = grind (arith, common_steps, slice-length)

pub part_within : (text : Text) (at : Span) → IsWithin text (record { start = at.start; end = at.end }) → (within : Range ℕ) → IsWithin (part_at text at) within
    → IsWithin text (record { start = at.start + within.start; end = at.start + within.end })
part_within text at placed within inside = record {
  start_le_end = omega (arith, inside.start_le_end);
  start = cut_in_part text at.start at.end within.start placed.start_le_end placed.end inside.start;
  end = cut_in_part text at.start at.end within.end placed.start_le_end placed.end inside.end;
}

-- a part with the delimiter after it
pub first_len : (mark : ℕ) (part : Option Text) → with_mark 1 part ≡ length (part_then (mark ∷ []) part)
first_len mark part = grind (arith, common_steps)

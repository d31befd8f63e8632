-- The first index that is marked, by marks of 16 at a time.
use Rattle.std.proofs.Common.{◌≡◌, ◌≢◌, ℕ, ◌+◌, ◌-◌, ◌<◌, ◌≤◌, List, [], ◌∷◌, ◌++◌, take, drop, true, false, cond, eqb, length, get_or, not, replicate, refl, sym, ap, subst, ◌∙◌, arith, ⊎_elim, true≢false}
use Rattle.std.proofs.{lemmas.Bool.{cases_lt, eq-eqb, eqb-true}, lemmas.Bool.Decides.{nat_tests}}
use Rattle.std.proofs.lemmas.List.Elements.{All-from_get_or}
use Rattle.std.proofs.lemmas.List.Sums.{AllPass-from_list_all, list_all-from_AllPass, position_or_len_is, passes_at_first, prefix_len-le-length}
use Rattle.std.proofs.lemmas.Str.{IsCharBoundary-end, IsCharBoundary-before_ascii, IsUtf8-drop}
use Rattle.std.proofs.lemmas.List.{get_or_append_left, get_or-append_right, get_or-take, get_or-drop, length-take-le}
use Rattle.std.proofs.lemmas.Simd.{get_or-replicate}
use Rattle.std.specs.{Str.{IsCharBoundary, IsUtf8}, List.{list_all, position_or_len}, Char.{char_set_contains}}
use Rattle.iref_parse.specs.Lanes.{HasLanes, DifferFirstAt}
use Rattle.iref_grammar.specs.Texts.{from_first}
use Rattle.iref_grammar.proofs.SplitLemmas.{begins_with_mark}

-- of n indices, none before this one is marked
pub record IsClearFront (mark : ℕ → ℕ) (n at : ℕ) : Type 0 where
  pub within : at ≤ n
  pub each : (k : ℕ) → k < at → mark k ≡ 0

module _ (mark : ℕ → ℕ) (n at : ℕ) (old : IsClearFront mark n at) where
  -- the last 16, which may be read again
  pub IsClearFront-last : 16 ≤ n → n ≤ at + 16 → IsClearFront mark n (n - 16)
  IsClearFront-last long near = record { within = omega arith; each = λ k l. old.each k (omega arith) }

  -- as many more as the vector has lanes of 0 in front
  further : (v : List ℕ) (r : ℕ) → at + r ≤ n → r ≤ 16 → HasLanes v (λ k. mark (at + k)) → ((j : ℕ) → j < r → get_or v j 0 ≡ 0) → IsClearFront mark n (at + r)
  further v r room few marks zero = record {
    within = room;
    each = λ k l. ⊎_elim (λ below. old.each k below)
        (λ from.
        let here : k ≡ at + (k - at) = omega arith in
        ap mark here ∙ sym (marks.each (k - at) (omega arith)) ∙ zero (k - at) (omega arith))
        (cases_lt k at);
  }

  -- 16 more of which none is marked
  pub IsClearFront-step : (v : List ℕ) → at + 16 ≤ n → HasLanes v (λ k. mark (at + k)) → list_all (λ x. eqb x 0) v ≡ true → IsClearFront mark n (at + 16)
  IsClearFront-step v room marks clear =
      let long = marks.long in
      further v 16 room (omega arith) marks (λ j l. eqb-true _ 0 (AllPass-from_list_all (λ x. eqb x 0) v clear j 0 (omega arith)))

  module _ (v : List ℕ) (r : ℕ) (room : at + 16 ≤ n) (marks : HasLanes v (λ k. mark (at + k))) (first : DifferFirstAt v (replicate 16 0) 16 r) where
    pub IsClearFront-more : IsClearFront mark n (at + r)
    IsClearFront-more =
        let within = first.within in
        further v r (omega arith) within marks (λ j l. first.same j l ∙ get_or-replicate 16 j 0 0 (omega arith))

    -- one of the 16 is marked
    pub IsClearFront-met : list_all (λ x. eqb x 0) v ≡ false → r < 16
    IsClearFront-met other =
        let within = first.within in
        let long = marks.long in
        ⊎_elim (λ below. below)
        (λ past.
        let clear = list_all-from_AllPass (λ x. eqb x 0) v (All-from_get_or (λ x. eqb x 0 ≡ true) v 0 (λ k l. eq-eqb _ 0 (first.same k (omega arith) ∙ get_or-replicate 16 k 0 0 (omega arith)))) in
        absurd (true≢false (sym clear ∙ other)))
        (cases_lt r 16)

    pub IsClearFront-ends : r < 16 → mark (at + r) ≢ 0
    IsClearFront-ends l e = first.other l (marks.each r l ∙ e ∙ sym (get_or-replicate 16 r 0 0 l))

-- a byte that is one of two
abbrev pub either_at : ℕ → ℕ → List ℕ → ℕ → ℕ
either_at first second bytes k = cond (char_set_contains (first ∷ second ∷ []) (get_or bytes k 0)) 255 0

-- the first of two marks is at the end of the clear front
pub position_from_clear : (first second : ℕ) (bytes : List ℕ) (at : ℕ) → IsClearFront (either_at first second bytes) (length bytes) at → (at < length bytes → either_at first second bytes at ≢ 0)
    → at ≡ position_or_len (char_set_contains (first ∷ second ∷ [])) bytes
position_from_clear first second bytes at h other =
    sym (position_or_len_is (char_set_contains (first ∷ second ∷ [])) bytes at 0 h.within (λ k l. let clear = h.each k l in grind (arith, nat_tests)) (λ l. let marked = other l in grind (arith, nat_tests)))

-- the first eight bytes and the last eight, which may be some of the first
abbrev pub ends : List ℕ → List ℕ
ends bytes = take 8 bytes ++ drop (length bytes - 8) bytes

module _ (bytes : List ℕ) (least : 8 ≤ length bytes) where
  pub low_end : (k : ℕ) → k < 8 → get_or bytes k 0 ≡ get_or (ends bytes) k 0
  low_end k l = sym (get_or_append_left (take 8 bytes) (drop (length bytes - 8) bytes) 0 k (omega (arith, l, length-take-le 8 bytes least)) ∙ get_or-take 8 bytes k 0 l)

  pub high_end : (k : ℕ) → length bytes ≤ k + 8 → get_or bytes k 0 ≡ get_or (ends bytes) (k + 16 - length bytes) 0
  high_end k l =
      let lane : length bytes - 8 + (k + 16 - length bytes - 8) ≡ k = omega arith in
      sym (get_or-append_right (take 8 bytes) (drop (length bytes - 8) bytes) 8 (k + 16 - length bytes) 0 (length-take-le 8 bytes least) (omega arith)
      ∙ get_or-drop (length bytes - 8) bytes (k + 16 - length bytes - 8) 0 ∙ ap (λ i. get_or bytes i 0) lane)

-- of 8 to 15 bytes, the first lane that is marked tells the first position
module _ (first second : ℕ) (bytes : List ℕ) (least : 8 ≤ length bytes) (most : length bytes < 16) (v : List ℕ) (r : ℕ) (marks : HasLanes v (λ k. either_at first second (ends bytes) (0 + k)))
    (differ : DifferFirstAt v (replicate 16 0) 16 r) where
  abbrev mark : List ℕ → ℕ → ℕ
  mark = either_at first second

  none : IsClearFront (mark (ends bytes)) 16 0
  none = record { within = omega arith; each = λ k l. absurd (omega arith) }

  clear : IsClearFront (mark (ends bytes)) 16 (0 + r)
  clear = IsClearFront-more (mark (ends bytes)) 16 0 none v r (omega arith) marks differ

  met : r < 16 → mark (ends bytes) r ≢ 0
  met l e = let here : 0 + r ≡ r = omega arith in IsClearFront-ends (mark (ends bytes)) 16 0 none v r (omega arith) marks differ l (ap (mark (ends bytes)) here ∙ e)

  same : (i j : ℕ) → get_or bytes i 0 ≡ get_or (ends bytes) j 0 → mark bytes i ≡ mark (ends bytes) j
  same i j e = ap (λ x. cond (char_set_contains (first ∷ second ∷ []) x) 255 0) e

  pub position_at_low_end : r < 8 → r ≡ position_or_len (char_set_contains (first ∷ second ∷ [])) bytes
  position_at_low_end low =
      position_from_clear first second bytes r (record { within = omega arith; each = λ k l. same k k (low_end bytes least k (omega arith)) ∙ clear.each k (omega arith) }) (λ l e. met (omega arith) (sym (same r r (low_end bytes least r low)) ∙ e))

  pub position_at_high_end : 8 ≤ r → r + length bytes - 16 ≡ position_or_len (char_set_contains (first ∷ second ∷ [])) bytes
  position_at_high_end high =
      let within = differ.within in
      let at = r + length bytes - 16 in
      let lane : at + 16 - length bytes ≡ r = omega arith in
      position_from_clear first second bytes at
      (record {
        within = omega arith;
        each = λ k l. ⊎_elim (λ low. same k k (low_end bytes least k low) ∙ clear.each k (omega arith)) (λ from. same k (k + 16 - length bytes) (high_end bytes least k (omega arith)) ∙ clear.each (k + 16 - length bytes) (omega arith)) (cases_lt k 8);
      })
      (λ l e. met (omega arith) (ap (mark (ends bytes)) (sym lane) ∙ sym (same at (at + 16 - length bytes) (high_end bytes least at (omega arith))) ∙ e))

-- one mark is two that are the same
pub position_of_one : (mark : ℕ) (text : List ℕ) → position_or_len (char_set_contains (mark ∷ mark ∷ [])) text ≡ position_or_len (char_set_contains (mark ∷ [])) text
position_of_one mark [] = refl
position_of_one mark (c ∷ cs) =
    let once : char_set_contains (mark ∷ mark ∷ []) c ≡ char_set_contains (mark ∷ []) c = grind (arith, nat_tests) in
    λ i. cond (not (once i)) (1 + position_of_one mark cs i) 0

-- a text may be cut before the first of two ASCII marks, and at its end
pub boundary_at_position : (first second : ℕ) (text : List ℕ) → first < 128 → second < 128 → IsCharBoundary text (position_or_len (char_set_contains (first ∷ second ∷ [])) text)
boundary_at_position first second text f s =
    let test = char_set_contains (first ∷ second ∷ []) in
    let n = position_or_len test text in
    let bound = prefix_len-le-length (λ c. not (test c)) text in
    ⊎_elim (λ inside. IsCharBoundary-before_ascii text n inside (let marked = passes_at_first test text 0 inside in grind (arith, nat_tests)))
    (λ past. let end : length text ≡ n = omega (arith, bound, past) in subst (IsCharBoundary text) end (IsCharBoundary-end text)) (cases_lt n (length text))

pub marked_as_first : (first second : ℕ) (bytes : List ℕ) (k : ℕ) → get_or bytes k 0 ≡ first → either_at first second bytes k ≢ 0
marked_as_first first second bytes k e h = grind (arith, nat_tests)

pub marked_as_second : (first second : ℕ) (bytes : List ℕ) (k : ℕ) → get_or bytes k 0 ≡ second → either_at first second bytes k ≢ 0
marked_as_second first second bytes k e h = grind (arith, nat_tests)

-- what begins at the mark begins with it
pub begins_at_mark : (mark : ℕ) (text rest : List ℕ) → rest ≡ from_first (mark ∷ []) text → 0 < length rest → get_or rest 0 0 ≡ mark
begins_at_mark mark text [] e l = absurd (omega arith)
begins_at_mark mark text (c ∷ cs) e l = let marked = begins_with_mark (mark ∷ []) text c cs (sym e) in grind (arith, nat_tests)

pub from_mark_in_utf8 : (mark : ℕ) (text : List ℕ) → mark < 128 → IsUtf8 text → IsUtf8 (from_first (mark ∷ []) text)
from_mark_in_utf8 mark text low u = IsUtf8-drop text _ u (subst (IsCharBoundary text) (position_of_one mark text) (boundary_at_position mark mark text low low))

pub ruleset at_ends = (position_at_low_end, position_at_high_end)

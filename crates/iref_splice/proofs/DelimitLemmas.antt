-- What a hasher reads of a text without the byte 255 determines the text, and where it ends.
use Rattle.std.proofs.Common.{◌≡◌, ℕ, zero, suc, ◌+◌, ◌-◌, ◌<◌, ◌≤◌, Bool, true, false, not, ◌&&◌, ◌==◌, List, [], ◌∷◌, ◌++◌, length, take, drop, refl, sym, ◌∙◌, ap, arith, append_assoc, length-append, length-take-le, length-drop, take-append-drop, nat_le}
use Rattle.std.proofs.{lemmas.Bool.{and_parts}, lemmas.Bool.Decides.{nat_tests}, lemmas.Grind.{common_steps}}
use Rattle.std.proofs.{lemmas.List.{append-nil}, lemmas.List.Folds.{concat-append, list_all-append}}
use Rattle.std.specs.{Hash.{HashWrites}, List.{concat, list_all}}
use Rattle.iref_grammar.specs.Rules.{Text}
use Rattle.iref_splice.specs.Fed.{fed_text, full_piece, is_unended, IsSelfDelimiting, next_piece, waiting_after, written_after}
use Rattle.iref_splice.proofs.FedLemmas.{waiting-fits, written-fits, waiting-cut, written-cut}

-- the bytes of the pieces
abbrev body : Text → Text
body text = concat (written_after [] text) ++ waiting_after [] text

-- one byte more
all-next : (test : ℕ → Bool) (written : HashWrites) (waiting : Text) (b : ℕ)
    → list_all test (concat (written ++ full_piece waiting) ++ next_piece b waiting) ≡ (test b && list_all test (concat written ++ waiting))
all-next test written waiting b = grind (arith, common_steps, concat-append, list_all-append, append-nil)

length-next : (written : HashWrites) (waiting : Text) (b : ℕ) → length (concat (written ++ full_piece waiting) ++ next_piece b waiting) ≡ suc (length (concat written ++ waiting))
length-next written waiting b = grind (arith, common_steps, concat-append, length-append, append-nil)

all-body : (test : ℕ → Bool) (text : Text) → list_all test (body text) ≡ list_all test text
unfolding waiting_after written_after
all-body test [] = refl
all-body test (b ∷ bs) = all-next test (written_after [] bs) (waiting_after [] bs) b ∙ ap (λ c. test b && c) (all-body test bs)

length-body : (text : Text) → length (body text) ≡ length text
unfolding waiting_after written_after
length-body [] = refl
length-body (b ∷ bs) = length-next (written_after [] bs) (waiting_after [] bs) b ∙ ap suc (length-body bs)

-- ---- the text of such bytes

body-one : (text : Text) → length text ≤ 256 → body text ≡ text
body-one text h = (λ i. concat (written-fits [] text (omega arith) i) ++ waiting-fits [] text (omega arith) i) ∙ append-nil text

body-cut : (front back : Text) → length back ≡ 256 → 0 < length front → body (front ++ back) ≡ back ++ body front
body-cut front back h some =
    (λ i. concat (written-cut [] front back (omega (arith, h)) some i) ++ waiting-cut [] front back (omega (arith, h)) some i)
    ∙ ap (λ t. (t ++ concat (written_after [] front)) ++ waiting_after [] front) (append-nil back)
    ∙ append_assoc back (concat (written_after [] front)) (waiting_after [] front)

-- lists of the same length, with anything behind them
cut : (u v r s : List ℕ) → length u ≡ length v → u ++ r ≡ v ++ s → (u ≡ v) × (r ≡ s)
cut [] [] r s n e = (refl, e)
cut [] (y ∷ v) r s n e = absurd (omega (arith, n))
cut (x ∷ u) [] r s n e = absurd (omega (arith, n))
cut (x ∷ u) (y ∷ v) r s n e = grind (arith, cut u v r s)

-- a piece behind texts of which one is the other
module _ (a b : Text) (size : length a ≡ length b) (many : 256 < length a) (e : body a ≡ body b) where
  abbrev at : ℕ
  at = length a - 256

  fronts_and_pieces : (body (take at a) ≡ body (take at b)) × (drop at a ≡ drop at b)
  fronts_and_pieces =
      let cut_a = body-cut (take at a) (drop at a) (omega (arith, many, length-drop at a)) (omega (arith, many, length-take-le at a (omega arith))) in
      let cut_b = body-cut (take at b) (drop at b) (omega (arith, many, length-drop at b, size)) (omega (arith, many, size, length-take-le at b (omega (arith, size)))) in
      let same : drop at a ++ body (take at a) ≡ drop at b ++ body (take at b) = sym cut_a ∙ ap body (take-append-drop at a) ∙ e ∙ sym (ap body (take-append-drop at b)) ∙ cut_b in
      let both = cut (drop at a) (drop at b) (body (take at a)) (body (take at b)) (omega (arith, length-drop at a, length-drop at b, size)) same in
      (both.1, both.0)

  shorter : length (take at a) < length a
  shorter = omega (arith, many, length-take-le at a (omega arith))

  whole : take at a ≡ take at b → a ≡ b
  whole front = sym (take-append-drop at a) ∙ (λ i. front i ++ fronts_and_pieces.1 i) ∙ take-append-drop at b

same_lengths : (a b : Text) → body a ≡ body b → length a ≡ length b
same_lengths a b e = sym (length-body a) ∙ ap length e ∙ length-body b

one_piece : (a b : Text) → body a ≡ body b → length a ≤ 256 → a ≡ b
one_piece a b e low = sym (body-one a low) ∙ e ∙ body-one b (omega (arith, low, same_lengths a b e))

same-body : (n : ℕ) (a b : Text) → length a ≤ n → body a ≡ body b → a ≡ b
same-body zero a b h e = one_piece a b e (omega (arith, h))
same-body (suc n) a b h e = by (nat_le (length a) 256) refl (λ many. same-body n (take (length a - 256) a) (take (length a - 256) b) (omega (arith, h, shorter a b (same_lengths a b e) many e)))
  where
    by : (few : Bool) → nat_le (length a) 256 ≡ few
        → (256 < length a → body (take (length a - 256) a) ≡ body (take (length a - 256) b) → take (length a - 256) a ≡ take (length a - 256) b) → a ≡ b
    by true q front = one_piece a b e (grind (arith, nat_tests))
    by false q front =
        let many : 256 < length a = grind (arith, nat_tests) in
        let size = same_lengths a b e in
        whole a b size many e (front many (fronts_and_pieces a b size many e).0)

-- ---- and where it ends

-- the first 255
ended : (u v r s : List ℕ) → is_unended u ≡ true → is_unended v ≡ true → u ++ 255 ∷ r ≡ v ++ 255 ∷ s → (u ≡ v) × (r ≡ s)
ended [] [] r s h k e = grind (arith, common_steps)
ended [] (y ∷ v) r s h k e = grind (arith, nat_tests, common_steps)
ended (x ∷ u) [] r s h k e = grind (arith, nat_tests, common_steps)
ended (x ∷ u) (y ∷ v) r s h k e =
    let first = and_parts (not (x == 255)) (is_unended u) h in
    let other = and_parts (not (y == 255)) (is_unended v) k in
    grind (arith, ended u v r s)

all-written : (text : Text) (r : List ℕ) → concat (fed_text text) ++ r ≡ body text ++ 255 ∷ r
unfolding fed_text
all-written text r = grind (arith, common_steps, concat-append, append_assoc)

pub text-delimits : IsSelfDelimiting (λ text. is_unended text ≡ true) fed_text
text-delimits a b h k r s e =
    let both = ended (body a) (body b) r s (all-body _ a ∙ h) (all-body _ b ∙ k) (sym (all-written a r) ∙ e ∙ all-written b s) in
    (same-body (length a) a b (omega arith) both.0, both.1)

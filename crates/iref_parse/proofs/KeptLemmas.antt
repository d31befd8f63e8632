-- The first bytes of two texts that are the same and are kept where escapes are decoded.
use Rattle.std.proofs.Common.{◌≡◌, ◌≢◌, ℕ, ◌<◌, ◌≤◌, List, cond, eqb, length, length-take-le, get_or, get_or-take, take, bit_or, sym, ap, ◌∙◌, arith, ⊎_elim, bit_xor, min}
use Rattle.std.proofs.lemmas.Bool.{cases_eq, cases_lt, eq-eqb, ne_eqb}
use Rattle.std.proofs.lemmas.Nat.{and_le_l, and_le_r, le_or_l, le_or_r}
use Rattle.std.specs.Int.Bits.{xor_add_and, xor_self}
use Rattle.iref_parse.specs.{Kept.{IsKeptFront, end_mark}, Lanes.{IsFirstMarked}}

-- the first n bytes are the same, and none of them is `%`
pub record AreKept (a b : List ℕ) (n : ℕ) : Type 0 where
  pub first : n ≤ length a
  pub second : n ≤ length b
  pub same : (k : ℕ) → k < n → get_or a k 0 ≡ get_or b k 0
  pub kept : (k : ℕ) → k < n → get_or a k 0 ≢ 37

-- the first n bytes of both show it
pub IsKeptFront-near : (a b : List ℕ) (n r : ℕ) → n ≤ length a → n ≤ length b → IsKeptFront (take n a) (take n b) r → (r ≡ n → r < length a → r < length b → ⊥) → IsKeptFront a b r
IsKeptFront-near a b n r p q near whole =
    let left = length-take-le n a p in
    let right = length-take-le n b q in
    let first = near.first in
    record {
      first = omega arith;
      second = omega arith;
      same = λ k l. sym (get_or-take n a k 0 (omega arith)) ∙ near.same k l ∙ get_or-take n b k 0 (omega arith);
      kept = λ k l e. near.kept k l (get_or-take n a k 0 (omega arith) ∙ e);
      ends = λ l m e. ⊎_elim
          (λ inside. sym (get_or-take n a r 0 inside) ∙ near.ends (omega arith) (omega arith) (get_or-take n a r 0 inside ∙ e ∙ sym (get_or-take n b r 0 inside)))
          (λ past. absurd (whole (omega arith) l m)) (cases_lt r n);
    }

-- ---- by the marks of the positions where the texts differ, and where `%` stands

xor_same : (x y : ℕ) → bit_xor x y ≡ 0 → x ≡ y
xor_same x y e = omega (arith, e, xor_add_and x y, and_le_l x y, and_le_r x y)

same_from_mark : (x y : ℕ) → end_mark x y ≡ 0 → x ≡ y
same_from_mark x y e = xor_same x y (omega (arith, e, le_or_l (bit_xor x y) (cond (eqb x 37) 255 0)))

kept_from_mark : (x y : ℕ) → end_mark x y ≡ 0 → x ≢ 37
kept_from_mark x y e h =
    let set = ap {B = ℕ} (λ t. cond t 255 0) (eq-eqb x 37 h) in
    omega (arith, e, set, le_or_r (bit_xor x y) (cond (eqb x 37) 255 0))

mark_of_same : (x y : ℕ) → x ≡ y → x ≢ 37 → end_mark x y ≡ 0
mark_of_same x y e h = (λ i. bit_or (bit_xor x (sym e i)) (cond (ne_eqb x 37 h i) 255 0)) ∙ ap (λ z. bit_or z 0) (xor_self x)

pub kept_from_marks : (a b : List ℕ) (n r : ℕ) → n ≡ min (length a) (length b) → IsFirstMarked (λ k. end_mark (get_or a k 0) (get_or b k 0)) n r → IsKeptFront a b r
kept_from_marks a b n r e h =
    let within = h.within in
    record {
      first = omega arith;
      second = omega arith;
      same = λ k l. same_from_mark _ _ (h.clear k l);
      kept = λ k l. kept_from_mark _ _ (h.clear k l);
      ends = λ l m same. ⊎_elim (λ is. is) (λ other. absurd (h.marked (omega arith) (mark_of_same _ _ same other))) (cases_eq (get_or a r 0) 37);
    }

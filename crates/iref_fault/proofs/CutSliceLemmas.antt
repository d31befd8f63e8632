-- Slices of a text: a cut at an ASCII delimiter gives slices that are UTF-8.
use Rattle.std.proofs.Common.{arith, ◌≡◌, ℕ, zero, suc, true, ◌+◌, ◌<◌, [], ◌∷◌, ◌++◌, refl, sym, ◌∙◌, ap, subst, length, take, drop, append_assoc, length-append, Option, Some, None, IfSome, chars, encode_utf8_all}
use Rattle.std.proofs.{Math.Seq.{take-append_seam, drop-append_seam}, lemmas.List.{take-append-drop, append-nil}}
use Rattle.std.proofs.lemmas.Str.{IsUtf8-nil, IsUtf8-take, IsUtf8-drop, IsUtf8-append, IsCharBoundary-after_ascii, IsCharBoundary-at_seam, encodes-chars, encodes-append, scalars-chars}
use Rattle.std.specs.Str.{IsUtf8, IsCharBoundary, all_scalars}
use Rattle.iref_grammar.specs.{Rules.{Text}, Texts.{then_part}}
use Rattle.iref_grammar.proofs.SliceLemmas.{mark_boundary}
use Rattle.iref_fault.specs.Places.{bytes_before}

-- ---- UTF-8

pub utf8_seam : (front back text : Text) → front ++ back ≡ text → IsUtf8 text → IsCharBoundary text (length front) → IsUtf8 front × IsUtf8 back
utf8_seam front back text e u b = (
  subst IsUtf8 (ap (take (length front)) (sym e) ∙ take-append_seam front back) (IsUtf8-take text (length front) u b),
  subst IsUtf8 (ap (drop (length front)) (sym e) ∙ drop-append_seam front back) (IsUtf8-drop text (length front) u b),
)

-- what stands before an ASCII delimiter, and from it on
pub utf8_before : (mark : ℕ) (front : Text) (o : Option Text) (text : Text) → mark < 128 → front ++ then_part (mark ∷ []) o ≡ text → IsUtf8 text → IsUtf8 front × IsUtf8 (then_part (mark ∷ []) o)
utf8_before mark front o text m e u = utf8_seam front (then_part (mark ∷ []) o) text e u (mark_boundary mark front o text m e)

-- ---- slices

pub record IsSlice (text : Text) (start : ℕ) (part : Text) : Type 0 where
  pub front : Text
  pub back : Text
  pub divided : front ++ (part ++ back) ≡ text
  pub starts : length front ≡ start
  pub utf8 : IsUtf8 part
  pub utf8_back : IsUtf8 back

pub whole_slice : (text : Text) → IsUtf8 text → IsSlice text 0 text
whole_slice text u = record { front = []; back = []; divided = append-nil text; starts = refl; utf8 = u; utf8_back = IsUtf8-nil }

-- the two pieces of a slice
pub first_slice : (text : Text) (start : ℕ) (part x y : Text) → IsSlice text start part → x ++ y ≡ part → IsUtf8 x → IsUtf8 y → IsSlice text start x
first_slice text start part x y s e u v = record {
  front = s.front;
  back = y ++ s.back;
  divided = ap (λ t. s.front ++ t) (sym (append_assoc x y s.back) ∙ ap (λ t. t ++ s.back) e) ∙ s.divided;
  starts = s.starts;
  utf8 = u;
  utf8_back = IsUtf8-append y s.back v s.utf8_back;
}

pub second_slice : (text : Text) (start : ℕ) (part x y : Text) → IsSlice text start part → x ++ y ≡ part → IsUtf8 y → IsSlice text (start + length x) y
second_slice text start part x y s e v = record {
  front = s.front ++ x;
  back = s.back;
  divided = append_assoc s.front x (y ++ s.back) ∙ ap (λ t. s.front ++ t) (sym (append_assoc x y s.back) ∙ ap (λ t. t ++ s.back) e) ∙ s.divided;
  starts = length-append s.front x ∙ ap (λ n. n + length x) s.starts;
  utf8 = v;
  utf8_back = s.utf8_back;
}

-- a delimiter and what follows it
utf8_after : (mark : ℕ) (part : Text) → mark < 128 → IsUtf8 (mark ∷ part) → IsUtf8 part
utf8_after mark part m u = IsUtf8-drop (mark ∷ part) 1 u (IsCharBoundary-after_ascii (mark ∷ part) 0 u (omega arith) m)

pub slice_after : (text : Text) (start mark : ℕ) (part : Text) → mark < 128 → IsSlice text start (mark ∷ part) → IsSlice text (start + 1) part
slice_after text start mark part m s = second_slice text start (mark ∷ part) (mark ∷ []) part s refl (utf8_after mark part m s.utf8)

-- the pieces at the first delimiter
pub slice_before : (text : Text) (start : ℕ) (part : Text) (mark : ℕ) (front : Text) (o : Option Text) → mark < 128 → IsSlice text start part → front ++ then_part (mark ∷ []) o ≡ part → IsSlice text start front
slice_before text start part mark front o m s e = let u = utf8_before mark front o part m e s.utf8 in first_slice text start part front (then_part (mark ∷ []) o) s e u.0 u.1

pub slice_behind : (text : Text) (start : ℕ) (part : Text) (mark : ℕ) (front : Text) (o : Option Text) → mark < 128 → IsSlice text start part → front ++ then_part (mark ∷ []) o ≡ part
    → IfSome o (IsSlice text (start + length front + 1))
slice_behind text start part mark front None m s e = tt
slice_behind text start part mark front (Some rest) m s e =
    let u = utf8_before mark front (Some rest) part m e s.utf8 in
    slice_after text (start + length front) mark rest m (second_slice text start part front (mark ∷ rest) s e u.1)

-- ---- a place in a slice

scalars_drop : (n : ℕ) (cs : Text) → all_scalars cs ≡ true → all_scalars (drop n cs) ≡ true
scalars_drop zero cs h = h
scalars_drop (suc n) [] h = refl
scalars_drop (suc n) (c ∷ cs) h = grind (arith, scalars_drop n cs)

-- after some of its characters the whole text may be cut
pub slice_boundary : (text : Text) (start : ℕ) (part : Text) (place : ℕ) → IsSlice text start part → IsCharBoundary text (start + bytes_before place (chars part))
slice_boundary text start part place s =
    let cs = chars part in
    let front = encode_utf8_all (take place cs) in
    let back = encode_utf8_all (drop place cs) in
    let joined : front ++ back ≡ part = sym (encodes-append (take place cs) (drop place cs)) ∙ ap encode_utf8_all (take-append-drop place cs) ∙ encodes-chars part s.utf8 in
    let whole : text ≡ (s.front ++ front) ++ (back ++ s.back) =
    sym s.divided ∙ ap (λ t. s.front ++ t) (ap (λ t. t ++ s.back) (sym joined) ∙ append_assoc front back s.back) ∙ sym (append_assoc s.front front (back ++ s.back)) in
    let rest : IsUtf8 back = (drop place cs, (scalars_drop place cs (scalars-chars part s.utf8), refl)) in
    subst (IsCharBoundary text) (length-append s.front front ∙ ap (λ n. n + length front) s.starts)
    (IsCharBoundary-at_seam text (s.front ++ front) (back ++ s.back) whole (IsUtf8-append back s.back rest s.utf8_back))

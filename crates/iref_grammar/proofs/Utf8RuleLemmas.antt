-- The rules of characters, of bytes: each form of a rule goes over by itself.
use Rattle.std.proofs.Common.{◌≡◌, ℕ, ◌<◌, ◌≤◌, true, false, List, [], ◌∷◌, ◌++◌, refl, sym, ◌∙◌, ap, subst, arith, inl, inr, ◌==◌, nat_lt, encode_utf8_all, Option, Some, None, IfSome, true≢false}
use Rattle.std.proofs.{lemmas.Grind.{common_steps}, Math.Logic.{◌↔◌}, lemmas.Str.{encodes-append}}
use Rattle.std.proofs.{lemmas.Bool.Decides.{nat_tests, eqb_tells, leb_tells}, lemmas.Bool.{and_from}}
use Rattle.std.specs.{List.{AllByRecursion, concat, list_all}, Str.{all_scalars}, Char.{is_ascii}}
use Rattle.iref_grammar.specs.Rules.{Text, Rule, Empty, Mark, ◌⨾◌, ◌or◌, Optional, ZeroOrMore, InUtf8}
use Rattle.iref_grammar.specs.Texts.{part_then, then_part}
use Rattle.iref_grammar.proofs.{TextLemmas.{lacks}, RuleLemmas.{none_of, one_more}, CutLemmas.{first_lacks, rest_lacks}}

scalars-append : (xs ys : Text) → all_scalars xs ≡ true → all_scalars ys ≡ true → all_scalars (xs ++ ys) ≡ true
scalars-append [] ys h k = k
scalars-append (c ∷ xs) ys h k = grind (arith, scalars-append xs ys)

pub scalars-split : (xs ys : Text) → all_scalars (xs ++ ys) ≡ true → (all_scalars xs ≡ true) × (all_scalars ys ≡ true)
scalars-split [] ys h = (refl, h)
scalars-split (c ∷ xs) ys h = grind (arith, scalars-split xs ys)

-- ---- the forms

pub in_utf8-joined : (A B : Rule) (bytes : Text) → InUtf8 (A ⨾ B) bytes ↔ (InUtf8 A ⨾ InUtf8 B) bytes
in_utf8-joined A B bytes = (there, back)
  where
    there : InUtf8 (A ⨾ B) bytes → (InUtf8 A ⨾ InUtf8 B) bytes
    there z =
        let d = z.3 in
        let s = scalars-split d.0 d.1 (ap all_scalars d.4 ∙ z.1) in
        (encode_utf8_all d.0, encode_utf8_all d.1, (d.0, s.0, refl, d.2), (d.1, s.1, refl, d.3), sym (encodes-append d.0 d.1) ∙ ap encode_utf8_all d.4 ∙ z.2)

    back : (InUtf8 A ⨾ InUtf8 B) bytes → InUtf8 (A ⨾ B) bytes
    back z =
        let a = z.2 in
        let b = z.3 in
        (a.0 ++ b.0, scalars-append a.0 b.0 a.1 b.1, encodes-append a.0 b.0 ∙ (λ i. a.2 i ++ b.2 i) ∙ z.4, (a.0, b.0, a.3, b.3, refl))

pub in_utf8-or : (A B : Rule) (bytes : Text) → InUtf8 (A or B) bytes ↔ (InUtf8 A or InUtf8 B) bytes
in_utf8-or A B bytes = grind arith

pub in_utf8-more : (A : Rule) (bytes : Text) → InUtf8 (ZeroOrMore A) bytes ↔ ZeroOrMore (InUtf8 A) bytes
in_utf8-more A bytes = (
  λ z. subst (ZeroOrMore (InUtf8 A)) (ap encode_utf8_all z.3.2 ∙ z.2) (there z.3.0 (ap all_scalars z.3.2 ∙ z.1) z.3.1),
  λ z. subst (InUtf8 (ZeroOrMore A)) z.2 (back z.0 z.1),
)
  where
    there : (pieces : List Text) → all_scalars (concat pieces) ≡ true → AllByRecursion A pieces → ZeroOrMore (InUtf8 A) (encode_utf8_all (concat pieces))
    there [] s all = none_of (InUtf8 A)
    there (p ∷ pieces) s all =
        let t = scalars-split p (concat pieces) s in
        subst (ZeroOrMore (InUtf8 A)) (sym (encodes-append p (concat pieces))) (one_more (InUtf8 A) (encode_utf8_all p) (encode_utf8_all (concat pieces)) (p, t.0, refl, all.0) (there pieces t.1 all.1))

    back : (pieces : List Text) → AllByRecursion (InUtf8 A) pieces → InUtf8 (ZeroOrMore A) (concat pieces)
    back [] all = ([], refl, refl, none_of A)
    back (p ∷ pieces) all =
        let a = all.0 in
        let r = back pieces all.1 in
        (a.0 ++ r.0, scalars-append a.0 r.0 a.1 r.1, encodes-append a.0 r.0 ∙ (λ i. a.2 i ++ r.2 i), one_more A a.0 r.0 a.3 r.3)

pub in_utf8-empty : (bytes : Text) → InUtf8 Empty bytes ↔ Empty bytes
in_utf8-empty bytes = (λ z. sym z.2 ∙ ap encode_utf8_all z.3, λ e. ([], refl, sym e, refl))

-- ---- ASCII

-- a text that holds no character from 128 on
pub ascii_from_lacks : (t : Text) → ((mark : ℕ) → 128 ≤ mark → lacks mark t ≡ true) → list_all is_ascii t ≡ true
ascii_from_lacks [] h = refl
ascii_from_lacks (c ∷ cs) h = and_from (is_ascii c) (list_all is_ascii cs) (elim (leb_tells 128 c) [
  | inl e ↦ absurd (not_itself (first_lacks c c cs (h c e.1)))
  | inr e ↦ below c e.1
]) (ascii_from_lacks cs (λ m k. rest_lacks m c cs (h m k)))
  where
    not_itself : (c == c) ≡ false → ⊥
    not_itself e = elim (eqb_tells c c) [ inl f ↦ true≢false (sym f.0 ∙ e) | inr f ↦ f.1 refl ]

    below : (n : ℕ) → n < 128 → nat_lt n 128 ≡ true
    below n k = grind (arith, nat_tests)

encodes_ascii : (t : Text) → list_all is_ascii t ≡ true → (all_scalars t ≡ true) × (encode_utf8_all t ≡ t)
encodes_ascii [] h = (refl, refl)
encodes_ascii (c ∷ cs) h = grind (arith, common_steps, encodes_ascii cs)

-- bytes are in a rule of ASCII exactly if they are as characters
pub in_utf8-ascii : (A : Rule) → ((t : Text) → A t → list_all is_ascii t ≡ true) → (bytes : Text) → InUtf8 A bytes ↔ A bytes
in_utf8-ascii A ascii bytes = (
  λ z. subst A (sym (encodes_ascii z.0 (ascii z.0 z.3)).1 ∙ z.2) z.3,
  λ a. let e = encodes_ascii bytes (ascii bytes a) in (bytes, e.0, e.1, a),
)

pub in_utf8-mark : (mark : ℕ) → is_ascii mark ≡ true → (bytes : Text) → InUtf8 (Mark mark) bytes ↔ Mark mark bytes
in_utf8-mark mark low = in_utf8-ascii (Mark mark) (λ t e. ap (list_all is_ascii) e ∙ and_from (is_ascii mark) true low refl)

-- ---- a part that may be left out, with its delimiter

abbrev pub IsThenPart : ℕ → Rule → Rule
IsThenPart mark A bytes = (o : Option Text) × IfSome o A × (then_part (mark ∷ []) o ≡ bytes)

abbrev pub IsPartThen : ℕ → Rule → Rule
IsPartThen mark A bytes = (o : Option Text) × IfSome o A × (part_then (mark ∷ []) o ≡ bytes)

pub in_utf8-then_part : (mark : ℕ) → is_ascii mark ≡ true → (A : Rule) (bytes : Text) → InUtf8 (Optional (Mark mark ⨾ A)) bytes ↔ IsThenPart mark (InUtf8 A) bytes
in_utf8-then_part mark low A bytes = (λ z. there ((in_utf8-or Empty (Mark mark ⨾ A) bytes).0 z), λ z. (in_utf8-or Empty (Mark mark ⨾ A) bytes).1 (back z.0 z.1 z.2))
  where
    there : (InUtf8 Empty or InUtf8 (Mark mark ⨾ A)) bytes → IsThenPart mark (InUtf8 A) bytes
    there (inl e) = (None, tt, sym ((in_utf8-empty bytes).0 e))
    there (inr z) =
        let j = (in_utf8-joined (Mark mark) A bytes).0 z in
        (Some j.1, j.3, ap (λ m. m ++ j.1) (sym ((in_utf8-mark mark low j.0).0 j.2)) ∙ j.4)

    back : (o : Option Text) → IfSome o (InUtf8 A) → then_part (mark ∷ []) o ≡ bytes → (InUtf8 Empty or InUtf8 (Mark mark ⨾ A)) bytes
    back None a e = inl ((in_utf8-empty bytes).1 (sym e))
    back (Some part) a e = inr ((in_utf8-joined (Mark mark) A bytes).1 (mark ∷ [], part, (in_utf8-mark mark low (mark ∷ [])).1 refl, a, e))

pub in_utf8-part_then : (mark : ℕ) → is_ascii mark ≡ true → (A : Rule) (bytes : Text) → InUtf8 (Optional (A ⨾ Mark mark)) bytes ↔ IsPartThen mark (InUtf8 A) bytes
in_utf8-part_then mark low A bytes = (λ z. there ((in_utf8-or Empty (A ⨾ Mark mark) bytes).0 z), λ z. (in_utf8-or Empty (A ⨾ Mark mark) bytes).1 (back z.0 z.1 z.2))
  where
    there : (InUtf8 Empty or InUtf8 (A ⨾ Mark mark)) bytes → IsPartThen mark (InUtf8 A) bytes
    there (inl e) = (None, tt, sym ((in_utf8-empty bytes).0 e))
    there (inr z) =
        let j = (in_utf8-joined A (Mark mark) bytes).0 z in
        (Some j.0, j.2, ap (λ m. j.0 ++ m) (sym ((in_utf8-mark mark low j.1).0 j.3)) ∙ j.4)

    back : (o : Option Text) → IfSome o (InUtf8 A) → part_then (mark ∷ []) o ≡ bytes → (InUtf8 Empty or InUtf8 (A ⨾ Mark mark)) bytes
    back None a e = inl ((in_utf8-empty bytes).1 (sym e))
    back (Some part) a e = inr ((in_utf8-joined A (Mark mark) bytes).1 (part, mark ∷ [], a, (in_utf8-mark mark low (mark ∷ [])).1 refl, e))

-- What takes a text from its end: nothing changes it, and one piece before another is one piece.
use Rattle.std.proofs.Common.{◌≡◌, ℕ, ◌+◌, [], ◌∷◌, ◌++◌, length, refl, sym, ◌∙◌, ap, arith, append_assoc, length-append, take-append-drop, Option, Some, None, bytes_eq}
use Rattle.std.proofs.{lemmas.Grind.{common_steps}, lemmas.List.{append-nil}, lemmas.Slice.Eq.{bytes_eq-Decides}}
use Rattle.iref_grammar.specs.Rules.{Text}
use Rattle.iref_splice.specs.Backward.{before_end, compared_after, counted_after, is_all}

-- ---- counted

pub counted-nothing : (n : ℕ) → counted_after n [] ≡ n
counted-nothing n = grind arith

pub counted-both : (n : ℕ) (front back : Text) → counted_after (counted_after n back) front ≡ counted_after n (front ++ back)
counted-both n front back = grind (arith, length-append)

-- ---- compared

pub before_end-is : (rest piece : Text) → before_end piece (rest ++ piece) ≡ Some rest
before_end-is rest piece = grind (arith, common_steps, length-append, bytes_eq-Decides)

pub before_end-splits : (piece text rest : Text) → before_end piece text ≡ Some rest → text ≡ rest ++ piece
before_end-splits piece text rest e = grind (arith, bytes_eq-Decides, take-append-drop)

compared-nothing-text : (text : Text) → before_end [] text ≡ Some text
compared-nothing-text text = ap (before_end []) (sym (append-nil text)) ∙ before_end-is text []

pub compared-nothing : (rest : Option Text) → compared_after rest [] ≡ rest
compared-nothing None = refl
compared-nothing (Some text) = compared-nothing-text text

both : (text front back : Text) → compared_after (before_end back text) front ≡ before_end (front ++ back) text
both text front back = by (before_end back text) refl
  where
    none : before_end back text ≡ None → (all : Option Text) → before_end (front ++ back) text ≡ all → None ≡ all
    none e None f = refl
    none e (Some q) f =
        let whole = before_end-splits (front ++ back) text q f ∙ sym (append_assoc q front back) in
        absurd (let n : None ≡ Some (q ++ front) = sym e ∙ ap (before_end back) whole ∙ before_end-is (q ++ front) back in cc)

    some : (r : Text) → text ≡ r ++ back → (one all : Option Text) → before_end front r ≡ one → before_end (front ++ back) text ≡ all → one ≡ all
    some r e (Some q) all f g =
        sym (before_end-is q (front ++ back)) ∙ ap (before_end (front ++ back)) (sym (e ∙ ap (λ t. t ++ back) (before_end-splits front r q f) ∙ append_assoc q front back)) ∙ g
    some r e None None f g = refl
    some r e None (Some q) f g =
        let whole = before_end-splits (front ++ back) text q g ∙ sym (append_assoc q front back) in
        let one : Some r ≡ Some (q ++ front) = sym (before_end-is r back) ∙ ap (before_end back) (sym e ∙ whole) ∙ before_end-is (q ++ front) back in
        let same : r ≡ q ++ front = cc in
        sym f ∙ ap (before_end front) same ∙ before_end-is q front

    by : (one : Option Text) → before_end back text ≡ one → compared_after one front ≡ before_end (front ++ back) text
    by None e = none e (before_end (front ++ back) text) refl
    by (Some r) e = some r (before_end-splits back text r e) (before_end front r) (before_end (front ++ back) text) refl refl

pub compared-both : (rest : Option Text) (front back : Text) → compared_after (compared_after rest back) front ≡ compared_after rest (front ++ back)
compared-both None front back = refl
compared-both (Some text) front back = both text front back

-- a text is compared whole exactly if it is the piece
pub all-compared : (text piece : Text) → is_all (compared_after (Some text) piece) ≡ bytes_eq text piece
all-compared text piece = by (before_end piece text) refl
  where
    by : (rest : Option Text) → before_end piece text ≡ rest → is_all rest ≡ bytes_eq text piece
    by None e =
        let other : (same : text ≡ piece) → ⊥ = λ same. let n : None ≡ Some [] = sym e ∙ ap (before_end piece) same ∙ before_end-is [] piece in cc in
        grind (arith, bytes_eq-Decides, other)
    by (Some []) e = grind (arith, bytes_eq-Decides, before_end-splits piece text [] e)
    by (Some (c ∷ rest)) e =
        let longer : length text ≡ length (c ∷ rest) + length piece = ap length (before_end-splits piece text (c ∷ rest) e) ∙ length-append (c ∷ rest) piece in
        grind (arith, bytes_eq-Decides, longer)

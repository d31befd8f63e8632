-- The forms of rules.
use Rattle.std.proofs.Common.{arith, ◌≡◌, ℕ, Bool, true, List, [], ◌∷◌, ◌++◌, refl, sym, ap, subst, append_assoc}
use Rattle.std.specs.{List.{AllByRecursion, concat, list_all}, Bool.{Decides}}
use Rattle.iref_grammar.specs.Rules.{Text, Rule, ZeroOrMore, OneOf}
use Rattle.iref_grammar.proofs.TextLemmas.{first_of_both, second_of_both}

pub none_of : (A : Rule) → ZeroOrMore A []
none_of A = ([], tt, refl)

pub one_more : (A : Rule) (piece rest : Text) → A piece → ZeroOrMore A rest → ZeroOrMore A (piece ++ rest)
one_more A piece rest a z = (piece ∷ z.0, (a, z.1), ap (λ t. piece ++ t) z.2)

-- characters that pass a test
pub Decides-ones : (test : ℕ → Bool) (text : Text) → Decides (list_all test text) (ZeroOrMore (OneOf test) text)
Decides-ones test text = (there text, λ z. back z.0 text z.1 z.2)
  where
    there : (t : Text) → list_all test t ≡ true → ZeroOrMore (OneOf test) t
    there [] h = none_of (OneOf test)
    there (c ∷ cs) h = one_more (OneOf test) (c ∷ []) cs (c, first_of_both (test c) (list_all test cs) h, refl) (there cs (second_of_both (test c) (list_all test cs) h))

    back : (pieces : List Text) (t : Text) → AllByRecursion (OneOf test) pieces → concat pieces ≡ t → list_all test t ≡ true
    back [] t all e = subst (λ x. list_all test x ≡ true) e refl
    back (p ∷ pieces) t all e = grind (arith, back pieces (concat pieces) all.1)

-- pieces of one rule that are pieces of another, and texts in a row
pub more_like : (A B : Rule) → ((p : Text) → A p → B p) → (text : Text) → ZeroOrMore A text → ZeroOrMore B text
more_like A B f text z = (z.0, by z.0 z.1, z.2)
  where
    by : (pieces : List Text) → AllByRecursion A pieces → AllByRecursion B pieces
    by [] all = tt
    by (p ∷ pieces) all = (f p all.0, by pieces all.1)

pub more-append : (A : Rule) (front rest : Text) → ZeroOrMore A front → ZeroOrMore A rest → ZeroOrMore A (front ++ rest)
more-append A front rest z w = subst (λ t. ZeroOrMore A (t ++ rest)) z.2 (by z.0 z.1)
  where
    by : (pieces : List Text) → AllByRecursion A pieces → ZeroOrMore A (concat pieces ++ rest)
    by [] all = w
    by (p ∷ pieces) all = subst (ZeroOrMore A) (sym (append_assoc p (concat pieces) rest)) (one_more A p (concat pieces ++ rest) all.0 (by pieces all.1))

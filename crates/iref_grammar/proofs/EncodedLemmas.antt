-- Characters and escapes: the test decides the rule.
use Rattle.std.proofs.Common.{◌≡◌, ℕ, zero, suc, Bool, true, false, cond, List, [], ◌∷◌, ◌++◌, refl, sym, ◌∙◌, ap, subst, arith, inl, inr, ◌==◌, if◌then◌else◌, Some, None, true≢false}
use Rattle.std.proofs.lemmas.Bool.Decides.{eqb_tells}
use Rattle.std.specs.{List.{AllByRecursion, concat}, Bool.{Decides}, Char.{is_ascii_hexdigit}}
use Rattle.iref_grammar.specs.{Rules.{Text, Rule, OneOf, ◌or◌}, Grammar.{percent_sign, IsPctEncoded, IsEncoded}}
use Rattle.iref_grammar.specs.Tests.{owed_after, is_encoded_after, is_encoded}
use Rattle.iref_grammar.proofs.RuleLemmas.{none_of, one_more}

abbrev pub Piece : (ℕ → Bool) → Rule
Piece test = OneOf test or IsPctEncoded

-- hexadecimal digits that are owed, and then pieces
abbrev Owed : (ℕ → Bool) → ℕ → Rule
Owed test zero text = IsEncoded test text
Owed test (suc n) text = (c : ℕ) × (rest : Text) × (is_ascii_hexdigit c ≡ true) × (c ∷ rest ≡ text) × Owed test n rest

escape : (h l : ℕ) → is_ascii_hexdigit h ≡ true → is_ascii_hexdigit l ≡ true → IsPctEncoded (percent_sign ∷ h ∷ l ∷ [])
escape h l p q = (percent_sign ∷ [], h ∷ l ∷ [], refl, (h ∷ [], l ∷ [], (h, p, refl), (l, q, refl), refl), refl)

after_escape : (test : ℕ → Bool) (rest : Text) → Owed test 2 rest → IsEncoded test (percent_sign ∷ rest)
after_escape test rest o =
    subst (λ t. IsEncoded test (percent_sign ∷ t)) (ap (λ t. o.0 ∷ t) o.4.3 ∙ o.3)
    (one_more (Piece test) (percent_sign ∷ o.0 ∷ o.4.0 ∷ []) o.4.1 (inr (escape o.0 o.4.0 o.2 o.4.2)) o.4.4)

-- one character, by cases
pub by_percent : (test : ℕ → Bool) (c : ℕ) → c ≡ percent_sign → owed_after test 0 c ≡ Some 2
unfolding owed_after
by_percent test c e = ap (λ d. if d == percent_sign then Some 2 else (if test d then Some 0 else None)) e

pub by_char : (test : ℕ → Bool) (c : ℕ) → (c == percent_sign) ≡ false → owed_after test 0 c ≡ (if test c then Some 0 else None)
unfolding owed_after
by_char test c e = λ i. cond (e i) (Some 2) (if test c then Some 0 else None)

pub by_digit : (test : ℕ → Bool) (owed c : ℕ) → owed_after test (suc owed) c ≡ (if is_ascii_hexdigit c then Some owed else None)
unfolding owed_after
by_digit test owed c = grind arith

pub if_taken : (test : ℕ → Bool) (owed : ℕ) (b : Bool) (cs : Text) → is_encoded_after test (if b then Some owed else None) cs ≡ true → (b ≡ true) × (is_encoded_after test (Some owed) cs ≡ true)
if_taken test owed true cs h = (refl, h)
if_taken test owed false cs h = absurd (true≢false (sym h))

pub still_owed : (n : ℕ) → (suc n == 0) ≡ true → ⊥
still_owed n h = grind arith

-- a text that the test takes is in the rule
there : (test : ℕ → Bool) (owed : ℕ) (text : Text) → is_encoded_after test (Some owed) text ≡ true → Owed test owed text
there test zero [] h = none_of (Piece test)
there test (suc n) [] h = absurd (still_owed n h)
there test (suc n) (c ∷ cs) h = grind (arith, by_digit, there test n cs)
there test zero (c ∷ cs) h = elim (eqb_tells c percent_sign) [
  | inl e ↦
      let more : is_encoded_after test (Some 2) cs ≡ true = ap (λ o. is_encoded_after test o cs) (sym (by_percent test c e.1)) ∙ h in
      subst (λ d. IsEncoded test (d ∷ cs)) (sym e.1) (after_escape test cs (there test 2 cs more))
  | inr e ↦
      let t = if_taken test 0 (test c) cs (ap (λ o. is_encoded_after test o cs) (sym (by_char test c e.0)) ∙ h) in
      one_more (Piece test) (c ∷ []) cs (inl (c, t.0, refl)) (there test 0 cs t.1)
]

-- a character that passes, and an escape, before a text that the test takes
pub take_char : (test : ℕ → Bool) → test percent_sign ≡ false → (c : ℕ) (rest : Text) → test c ≡ true → is_encoded test rest ≡ true → is_encoded test (c ∷ rest) ≡ true
take_char test safe c rest h k = grind (arith, by_char)

take_digit : (test : ℕ → Bool) (owed h : ℕ) (rest : Text) → is_ascii_hexdigit h ≡ true → is_encoded_after test (Some owed) rest ≡ true → is_encoded_after test (Some (suc owed)) (h ∷ rest) ≡ true
take_digit test owed h rest p k = ap (λ o. is_encoded_after test o rest) (by_digit test owed h ∙ ap (λ b. if b then Some owed else None) p) ∙ k

take_escape : (test : ℕ → Bool) → (h l : ℕ) (rest : Text) → is_ascii_hexdigit h ≡ true → is_ascii_hexdigit l ≡ true → is_encoded test rest ≡ true → is_encoded test (percent_sign ∷ h ∷ l ∷ rest) ≡ true
take_escape test h l rest p q k =
    ap (λ o. is_encoded_after test o (h ∷ l ∷ rest)) (by_percent test percent_sign refl) ∙ take_digit test 1 h (l ∷ rest) p (take_digit test 0 l rest q k)

take_piece : (test : ℕ → Bool) → test percent_sign ≡ false → (piece rest : Text) → Piece test piece → is_encoded test rest ≡ true → is_encoded test (piece ++ rest) ≡ true
take_piece test safe piece rest (inl one) k = ap (λ p. is_encoded test (p ++ rest)) one.2 ∙ take_char test safe one.0 rest one.1 k
take_piece test safe piece rest (inr esc) k = grind (arith, take_escape)

back : (test : ℕ → Bool) → test percent_sign ≡ false → (pieces : List Text) → AllByRecursion (Piece test) pieces → is_encoded test (concat pieces) ≡ true
back test safe [] all = refl
back test safe (p ∷ pieces) all = take_piece test safe p (concat pieces) all.0 (back test safe pieces all.1)

-- where the test refuses `%`
pub Decides-is_encoded : (test : ℕ → Bool) → test percent_sign ≡ false → (text : Text) → Decides (is_encoded test text) (IsEncoded test text)
Decides-is_encoded test safe text =
    (there test 0 text, λ z. subst (λ t. is_encoded test t ≡ true) z.2 (back test safe z.0 z.1))

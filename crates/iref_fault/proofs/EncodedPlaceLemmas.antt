-- Characters and escapes: the place where a text is outside the rule is where the scan of it stops.
use Rattle.std.proofs.Common.{arith, ◌≡◌, ℕ, zero, suc, Bool, true, false, [], ◌∷◌, ◌++◌, ◌⊎◌, inl, inr, refl, sym, ◌∙◌, ap, subst, length, take, ◌==◌, Option, Some, None, option_map, replicate, ◌&&◌, if◌then◌else◌, true≢false}
use Rattle.std.proofs.lemmas.Bool.{and_from}
use Rattle.std.specs.{Bool.{Decides}, List.{list_all}}
use Rattle.iref_grammar.specs.{Rules.{Text, Rule}, Grammar.{colon}, Tests.{owed_after, is_encoded_after}}
use Rattle.iref_grammar.proofs.{TextLemmas.{lacks}, LackLemmas.{lacks_more}, EncodedLemmas.{by_digit}}
use Rattle.iref_fault.proofs.OnesPlaceLemmas.{ones-first}
use Rattle.iref_fault.specs.Places.{IsFaultPlace, encoded_place_after, ones_place}

-- A test refuses the text, and the place is where it does so: for some rest the test takes what stands before, and for none what
-- stands up to and with the character there. The rest holds no `:`.
pub record IsTestPlace (test : Text → Bool) (text : Text) (place : ℕ) : Type 0 where
  pub outside : test text ≡ false
  pub rest : Text
  pub plain : lacks colon rest ≡ true
  pub begins : test (take place text ++ rest) ≡ true
  pub ends : (place ≡ length text) ⊎ ((more : Text) → test (take (suc place) text ++ more) ≡ false)

-- what a computed place tells of a text
abbrev pub PlaceTells : (Text → Bool) → Text → Option ℕ → Type 0
PlaceTells test text None = test text ≡ true
PlaceTells test text (Some place) = IsTestPlace test text place

-- the same of the rule that the test decides
pub place_of_rule : (test : Text → Bool) (A : Rule) → ((t : Text) → Decides (test t) (A t)) → (text : Text) (place : ℕ) → IsTestPlace test text place → IsFaultPlace A text place
place_of_rule test A d text place z = record {
  outside = λ a. true≢false (sym ((d text).1 a) ∙ z.outside);
  begins = (z.rest, (d (take place text ++ z.rest)).0 z.begins);
  ends = elim z.ends [
    | inl e ↦ inl e
    | inr h ↦ inr (λ b. true≢false (sym ((d (take (suc place) text ++ b.0)).1 b.1) ∙ h b.0))
  ];
}

zeros_plain : (n : ℕ) → lacks colon (replicate n 48) ≡ true
zeros_plain zero = refl
zeros_plain (suc n) = lacks_more colon 48 (replicate n 48) refl (zeros_plain n)

-- digits that are owed
owed_digits : (test : ℕ → Bool) (owed : ℕ) → is_encoded_after test (Some owed) (replicate owed 48) ≡ true
owed_digits test zero = refl
owed_digits test (suc n) = ap (λ o. is_encoded_after test o (replicate n 48)) (by_digit test n 48) ∙ owed_digits test n

not_paid : (n : ℕ) → (suc n == 0) ≡ false
not_paid n = grind arith

-- one character more, of which the scan goes on
one_more : (test : ℕ → Bool) (owed left c : ℕ) (cs : Text) → owed_after test owed c ≡ Some left → (p : Option ℕ) → PlaceTells (is_encoded_after test (Some left)) cs p → PlaceTells (is_encoded_after test (Some owed)) (c ∷ cs) (option_map suc p)
one_more test owed left c cs e None h = ap (λ o. is_encoded_after test o cs) e ∙ h
one_more test owed left c cs e (Some n) z = record {
  outside = ap (λ o. is_encoded_after test o cs) e ∙ z.outside;
  rest = z.rest;
  plain = z.plain;
  begins = ap (λ o. is_encoded_after test o (take n cs ++ z.rest)) e ∙ z.begins;
  ends = elim z.ends [
    | inl f ↦ inl (ap suc f)
    | inr h ↦ inr (λ more. ap (λ o. is_encoded_after test o (take (suc n) cs ++ more)) e ∙ h more)
  ];
}

-- where the scan goes on from what is owed after the first character
abbrev next_place : (ℕ → Bool) → Text → Option ℕ → Option ℕ
next_place test cs o = elim o as (λ p. Option ℕ) [
  | None ↦ Some 0
  | Some left ↦ option_map suc (encoded_place_after test left cs)
]

pub encoded_tells : (test : ℕ → Bool) (owed : ℕ) (text : Text) → PlaceTells (is_encoded_after test (Some owed)) text (encoded_place_after test owed text)
encoded_tells test zero [] = refl
encoded_tells test (suc n) [] =
    subst (PlaceTells (is_encoded_after test (Some (suc n))) []) (λ i. if sym (not_paid n) i then None else Some 0)
    (record { outside = not_paid n; rest = replicate (suc n) 48; plain = zeros_plain (suc n); begins = owed_digits test (suc n); ends = inl refl })
encoded_tells test owed (c ∷ cs) = by (owed_after test owed c) refl (λ left. encoded_tells test left cs)
  where
    by : (o : Option ℕ) → owed_after test owed c ≡ o → ((left : ℕ) → PlaceTells (is_encoded_after test (Some left)) cs (encoded_place_after test left cs))
        → PlaceTells (is_encoded_after test (Some owed)) (c ∷ cs) (encoded_place_after test owed (c ∷ cs))
    by None e more =
        subst (PlaceTells (is_encoded_after test (Some owed)) (c ∷ cs)) (ap (next_place test cs) (sym e))
        (record { outside = ap (λ o. is_encoded_after test o cs) e; rest = replicate owed 48; plain = zeros_plain owed; begins = owed_digits test owed; ends = inr (λ more. ap (λ o. is_encoded_after test o more) e) })
    by (Some left) e more =
        subst (PlaceTells (is_encoded_after test (Some owed)) (c ∷ cs)) (ap (next_place test cs) (sym e))
        (one_more test owed left c cs e (encoded_place_after test left cs) (more left))

-- ---- characters that pass

one_passes : (test : ℕ → Bool) (c : ℕ) (cs : Text) → test c ≡ true → (p : Option ℕ) → PlaceTells (list_all test) cs p → PlaceTells (list_all test) (c ∷ cs) (option_map suc p)
one_passes test c cs e None h = and_from (test c) (list_all test cs) e h
one_passes test c cs e (Some n) z = record {
  outside = ap (λ b. b && list_all test cs) e ∙ z.outside;
  rest = z.rest;
  plain = z.plain;
  begins = and_from (test c) (list_all test (take n cs ++ z.rest)) e z.begins;
  ends = elim z.ends [
    | inl f ↦ inl (ap suc f)
    | inr h ↦ inr (λ more. ap (λ b. b && list_all test (take (suc n) cs ++ more)) e ∙ h more)
  ];
}

one_fails : (test : ℕ → Bool) (c : ℕ) (cs : Text) → test c ≡ false → IsTestPlace (list_all test) (c ∷ cs) 0
one_fails test c cs e = record { outside = ap (λ b. b && list_all test cs) e; rest = []; plain = refl; begins = refl; ends = inr (λ more. ap (λ b. b && list_all test more) e) }

pub ones_tell : (test : ℕ → Bool) (text : Text) → PlaceTells (list_all test) text (ones_place test text)
ones_tell test [] = refl
ones_tell test (c ∷ cs) = subst (PlaceTells (list_all test) (c ∷ cs)) (sym (ones-first test c cs)) (by (test c) refl (ones_tell test cs))
  where
    by : (b : Bool) → test c ≡ b → PlaceTells (list_all test) cs (ones_place test cs) → PlaceTells (list_all test) (c ∷ cs) (if b then option_map suc (ones_place test cs) else Some 0)
    by true e more = one_passes test c cs e (ones_place test cs) more
    by false e more = one_fails test c cs e

-- The places of the entries that have one IRI.
use Rattle.std.proofs.Common.{Ordering, arith, ◌≡◌, ◌≢◌, ℕ, ◌+◌, ◌<◌, ◌≤◌, ◌⊎◌, inl, inr, Bool, true, false, cond, ◌&&◌, ◌||◌, not, List, [], ◌∷◌, refl, sym, ap, subst, ◌∙◌, true≢false, ◌==◌, min, max, nat_eq, nat_lt, Option, Some, None}
use Rattle.std.proofs.lemmas.Bool.{cases_eq, cases_lt, cases_order, eq-eqb, eqb-true, ne_eqb, false_from_ne_true}
use Rattle.std.proofs.lemmas.Bool.Decides.{nat_tests}
use Rattle.std.specs.{Option.{option_eq}, BTreeSet.{Updates, IsKeyRangeOf}, BTreeMap.Range.{IsInRange}}
use Rattle.std.specs.declared.ops.Bound.TheVariants.{Included, Excluded}
use Rattle.std.specs.Ordering.{nat_cmp, ordering_then, is_eq, is_gt}
use Rattle.iref.specs.{PrefixPlaces.{holds, is_at, ArePlaces}, declared.compact.shared.Shared.{Shared}}

abbrev order : ℕ × ℕ → ℕ × ℕ → Ordering
order x y = ordering_then (nat_cmp x.0 y.0) (nat_cmp x.1 y.1)

same_pair : (a b m p : ℕ) → is_eq (order (a, b) (m, p)) ≡ (m == a && p == b)
same_pair a b m p = grind (arith, nat_tests)

cond_or : (b x : Bool) → cond b true x ≡ (b || x)
cond_or true x = refl
cond_or false x = refl

cond_and : (b x : Bool) → cond b false x ≡ (not b && x)
cond_and true x = refl
cond_and false x = refl

-- ---- a change

module _ (old new : Shared) (iri place : ℕ) where
  pub holds_more : Updates order old.pairs new.pairs (iri, place) true → (m p : ℕ) → holds new m p ≡ ((m == iri && p == place) || holds old m p)
  holds_more h m p = h.0 (m, p) ∙ ap (λ b. cond b true (holds old m p)) (same_pair iri place m p) ∙ cond_or (m == iri && p == place) (holds old m p)

  pub holds_less : Updates order old.pairs new.pairs (iri, place) false → (m p : ℕ) → holds new m p ≡ (not (m == iri && p == place) && holds old m p)
  holds_less h m p = h.0 (m, p) ∙ ap (λ b. cond b false (holds old m p)) (same_pair iri place m p) ∙ cond_and (m == iri && p == place) (holds old m p)

  -- those of other numbers stay
  pub others_more : ((m p : ℕ) → holds new m p ≡ ((m == iri && p == place) || holds old m p)) → (m p : ℕ) → m ≢ iri → holds new m p ≡ holds old m p
  others_more made m p ne = made m p ∙ ap (λ b. (b && p == place) || holds old m p) (ne_eqb m iri ne)

  pub others_less : ((m p : ℕ) → holds new m p ≡ (not (m == iri && p == place) && holds old m p)) → (m p : ℕ) → m ≢ iri → holds new m p ≡ holds old m p
  others_less made m p ne = made m p ∙ ap (λ b. not (b && p == place) && holds old m p) (ne_eqb m iri ne)

  here_more : ((m p : ℕ) → holds new m p ≡ ((m == iri && p == place) || holds old m p)) → (p : ℕ) → holds new iri p ≡ (p == place || holds old iri p)
  here_more made p = made iri p ∙ ap (λ b. (b && p == place) || holds old iri p) (eq-eqb iri iri refl)

  here_less : ((m p : ℕ) → holds new m p ≡ (not (m == iri && p == place) && holds old m p)) → (p : ℕ) → holds new iri p ≡ (not (p == place) && holds old iri p)
  here_less made p = made iri p ∙ ap (λ b. not (b && p == place) && holds old iri p) (eq-eqb iri iri refl)

-- ---- the places of an IRI

lt_true : (a b : ℕ) → a < b → nat_lt a b ≡ true
lt_true a b l = grind (arith, nat_tests)

pub true_lt : (a b : ℕ) → nat_lt a b ≡ true → a < b
true_lt a b h = grind (arith, nat_tests)

swapped : (a b o : Bool) → (a || (b || o)) ≡ (b || (a || o))
swapped a b o = grind arith

or_either : (a o : Bool) → (a || o) ≡ true → (a ≡ true) ⊎ (o ≡ true)
or_either true o h = inl refl
or_either false o h = inr h

and_both : (a o : Bool) → (not a && o) ≡ true → (a ≡ false) × (o ≡ true)
and_both true o h = absurd (true≢false (sym h))
and_both false o h = (refl, h)

-- whether the place is the first
pub not_first : (first : Option ℕ) (p : ℕ) → not (option_eq nat_eq first (Some p)) ≡ true → is_at first p ≡ false
not_first None p h = refl
not_first (Some q) p h = ne_eqb p q (λ is. true≢false (sym h ∙ ap not (eq-eqb q p (sym is))))

pub the_first : (first : Option ℕ) (p : ℕ) → not (option_eq nat_eq first (Some p)) ≡ false → first ≡ Some p
the_first None p h = absurd (true≢false h)
the_first (Some q) p h = ap (λ n. Some n) (eqb-true q p (positive (q == p) h))
  where
    positive : (b : Bool) → not b ≡ false → b ≡ true
    positive true h = refl
    positive false h = absurd (true≢false h)

module _ (old : Shared) (iri place : ℕ) (h : ℕ → Bool) where
  -- the first place of an IRI
  pub places_begun : ArePlaces old iri None h → ArePlaces old iri (Some place) (λ p. p == place || h p)
  places_begun was = record {
    each = λ p. ap (λ b. p == place || b) (was.each p);
    behind = λ p held. absurd (true≢false (sym (was.behind p held)));
  }

  module _ (new : Shared) where
    -- one more place
    pub places_more : (first least most : ℕ) → least ≡ min first place → most ≡ max first place → h place ≡ false → ArePlaces old iri (Some first) h
        → ((m p : ℕ) → holds new m p ≡ ((m == iri && p == most) || holds old m p)) → ArePlaces new iri (Some least) (λ p. p == place || h p)
    places_more first least most is_min is_max free was made = record {
      each = λ p. ap (λ b. p == place || b) (was.each p) ∙ elim (cases_lt first place) [
        | inl less ↦
            swapped (p == place) (p == first) (holds old iri p)
            ∙ (let low : first ≡ least = omega (arith, is_min) in let high : place ≡ most = omega (arith, is_max) in λ i. (p == low i) || (p == high i || holds old iri p)) ∙ ap (λ b. p == least || b) (sym (here p))
        | inr more ↦
            (let low : place ≡ least = omega (arith, is_min) in let high : first ≡ most = omega (arith, is_max) in λ i. (p == low i) || (p == high i || holds old iri p)) ∙ ap (λ b. p == least || b) (sym (here p))
      ];
      behind = λ p held. elim (or_either (p == most) (holds old iri p) (sym (here p) ∙ held)) [
        | inl at ↦ lt_true least p (omega (arith, eqb-true p most at, apart, is_min, is_max))
        | inr was_held ↦ lt_true least p (omega (arith, true_lt first p (was.behind p was_held), is_min))
      ];
    }
      where
        here : (p : ℕ) → holds new iri p ≡ (p == most || holds old iri p)
        here = here_more old new iri most made

        apart : first ≢ place
        apart is = true≢false (ap (λ b. b || holds old iri place) (sym (eq-eqb place first (sym is))) ∙ sym (was.each place) ∙ free)

    -- a place behind the first is taken away
    pub places_less : (first : Option ℕ) → is_at first place ≡ false → ArePlaces old iri first h → ((m p : ℕ) → holds new m p ≡ (not (m == iri && p == place) && holds old m p)) → ArePlaces new iri first (λ p. not (p == place) && h p)
    places_less first other was made = record {
      each = λ p. ap (λ b. not (p == place) && b) (was.each p) ∙ elim (cases_eq p place) [
        | inl is ↦ taken (p == place) (is_at first p) (holds old iri p) (eq-eqb p place is) (ap (is_at first) is ∙ other) ∙ ap (λ b. is_at first p || b) (sym (here p))
        | inr ne ↦ stays (p == place) (is_at first p) (holds old iri p) (ne_eqb p place ne) ∙ ap (λ b. is_at first p || b) (sym (here p))
      ];
      behind = λ p held. was.behind p (and_both (p == place) (holds old iri p) (sym (here p) ∙ held)).1;
    }
      where
        here : (p : ℕ) → holds new iri p ≡ (not (p == place) && holds old iri p)
        here = here_less old new iri place made

        taken : (b f o : Bool) → b ≡ true → f ≡ false → (not b && (f || o)) ≡ (f || (not b && o))
        taken b f o e k = grind arith

        stays : (b f o : Bool) → b ≡ false → (not b && (f || o)) ≡ (f || (not b && o))
        stays b f o e = grind arith

    -- the first place is taken away, and the next one is the first
    pub places_next : (next : ℕ) → holds old iri next ≡ true → ((q : ℕ) → q < next → holds old iri q ≡ false) → ArePlaces old iri (Some place) h
        → ((m p : ℕ) → holds new m p ≡ (not (m == iri && p == next) && holds old m p)) → ArePlaces new iri (Some next) (λ p. not (p == place) && h p)
    places_next next held least was made = record {
      each = λ p. ap (λ b. not (p == place) && b) (was.each p) ∙ without (p == place) (holds old iri p) (λ at o. (let is = eqb-true p place at in let l = true_lt place p (was.behind p o) in absurd (omega arith)))
          ∙ sym (with_next (p == next) (holds old iri p) (λ at. ap (holds old iri) (eqb-true p next at) ∙ held)) ∙ ap (λ b. p == next || b) (sym (here p));
      behind = λ p h'.
          let both = and_both (p == next) (holds old iri p) (sym (here p) ∙ h') in
          elim (cases_order p next) [
            | inl is ↦ absurd (true≢false (sym (eq-eqb p next is) ∙ both.0))
            | inr (inl less) ↦ absurd (true≢false (sym both.1 ∙ least p less))
            | inr (inr more) ↦ lt_true next p more
          ];
    }
      where
        here : (p : ℕ) → holds new iri p ≡ (not (p == next) && holds old iri p)
        here = here_less old new iri next made

        without : (b o : Bool) → (b ≡ true → o ≡ true → ⊥) → (not b && (b || o)) ≡ o
        without b o apart = grind arith

        with_next : (b o : Bool) → (b ≡ true → o ≡ true) → (b || (not b && o)) ≡ o
        with_next b o is = grind arith

-- ---- the least place of one IRI

within : (n p : ℕ) → IsInRange order (Included (n, 0)) (Excluded (n + 1, 0)) (n, p)
within n p = (grind (arith, nat_tests), grind (arith, nat_tests))

of_this : (n a b : ℕ) → IsInRange order (Included (n, 0)) (Excluded (n + 1, 0)) (a, b) → a ≡ n
of_this n a b h = grind (arith, nat_tests)

not_before : (n p q : ℕ) → is_gt (order (n, p) (n, q)) ≡ false → p ≤ q
not_before n p q h = grind (arith, nat_tests)

module _ (shared : Shared) (iri : ℕ) (pairs : List (ℕ × ℕ)) (is : IsKeyRangeOf order (Included (iri, 0)) (Excluded (iri + 1, 0)) shared.pairs pairs) where
  pub no_place : pairs ≡ [] → (p : ℕ) → holds shared iri p ≡ false
  no_place none p = is.5 none (iri, p) (within iri p)

  pub first_place : (pair : ℕ × ℕ) (others : List (ℕ × ℕ)) → pairs ≡ pair ∷ others → (holds shared iri pair.1 ≡ true) × ((q : ℕ) → q < pair.1 → holds shared iri q ≡ false)
  first_place pair others first =
      let range : IsKeyRangeOf order (Included (iri, 0)) (Excluded (iri + 1, 0)) shared.pairs (pair ∷ others) = subst (IsKeyRangeOf order (Included (iri, 0)) (Excluded (iri + 1, 0)) shared.pairs) first is in
      let own : pair.0 ≡ iri = of_this iri pair.0 pair.1 range.1.0 in (
        subst (λ m. holds shared m pair.1 ≡ true) own range.1.1,
        λ q l. false_from_ne_true (holds shared iri q) (λ h.
            let behind : is_gt (order (iri, pair.1) (iri, q)) ≡ false = subst (λ m. is_gt (order (m, pair.1) (iri, q)) ≡ false) own (range.2 (iri, q) (within iri q) h) in
            let upto = not_before iri pair.1 q behind in absurd (omega arith)),
      )

-- Sets of sort keys find what is equal.
use Rattle.std.proofs.Common.{◌≡◌, Bool, true, false, cond, not, ◌||◌, ℕ, ◌+◌, List, [], ◌∷◌, ◌++◌, refl, sym, ◌∙◌, ap, take, map, subst, if◌then◌else◌}
use Rattle.std.proofs.{lemmas.List.{map-append}, lemmas.List.Folds.{list_any-append}, lemmas.List.Sums.{fold-append}}
use Rattle.std.specs.{Bool.{OnFalse}, List.{list_any}, Ordering.{is_eq}}
use Rattle.std.specs.BTreeSet.{BTreeSet, contains, Updates, IsUnchanged}
use Rattle.iref_grammar.specs.{Keys.{text_order}, Reference.{ReferenceValue}, Rules.{Text}}
use Rattle.iref_grammar.specs.Key.{are_alike, key}
use Rattle.iref_canonical.specs.SortKey.{sort_key}
use Rattle.iref_canonical.proofs.SortKeyLemmas.{text_order-sort_key}
use Rattle.iref.specs.Lists.{firsts, with_new}

-- the set has the sort key of a reference exactly if an equal one is kept
abbrev pub HasKeysOf : List ReferenceValue → BTreeSet Text → Type 0
HasKeysOf kept seen = (r : ReferenceValue) → contains text_order seen (sort_key (key r)) ≡ list_any (λ k. are_alike k r) kept

or_last : (b c : Bool) → cond b true c ≡ (c || (b || false))
or_last true true = refl
or_last true false = refl
or_last false true = refl
or_last false false = refl

flipped : (b c : Bool) → not b ≡ not c → b ≡ c
flipped true true e = refl
flipped true false e = sym e
flipped false true e = sym e
flipped false false e = refl

module _ {V : Type 0} (value : V → ReferenceValue) where
  -- those kept of the first links, whose sort keys the set has
  abbrev pub AreFirsts : List V → BTreeSet Text → List V → ℕ → Type 0
  AreFirsts kept seen links i = (map value kept ≡ firsts (map value (take i links))) × HasKeysOf (map value kept) seen

  module _ (kept : List V) (x : V) (old new : BTreeSet Text) (known : HasKeysOf (map value kept) old) where
    old_link : contains text_order old (sort_key (key (value x))) ≡ true → with_new (map value kept) (value x) ≡ map value kept
    old_link there = ap (λ b. if b then map value kept else (map value kept ++ value x ∷ [])) (sym (known (value x)) ∙ there)

    old_keys : IsUnchanged old new → HasKeysOf (map value kept) new
    old_keys same r = ap (list_any (λ k. is_eq (text_order (sort_key (key r)) k))) same ∙ known r

    new_link : contains text_order old (sort_key (key (value x))) ≡ false → with_new (map value kept) (value x) ≡ map value (kept ++ x ∷ [])
    new_link absent =
        ap (λ b. if b then map value kept else (map value kept ++ value x ∷ [])) (sym (known (value x)) ∙ absent)
        ∙ sym (map-append value kept (x ∷ []))

    new_keys : Updates text_order old new (sort_key (key (value x))) true → HasKeysOf (map value (kept ++ x ∷ [])) new
    new_keys updates r =
        updates.0 (sort_key (key r))
        ∙ ap (λ b. cond b true (contains text_order old (sort_key (key r)))) (ap is_eq (text_order-sort_key (key (value x)) (key r)))
        ∙ ap (cond (are_alike (value x) r) true) (known r)
        ∙ or_last (are_alike (value x) r) (list_any (λ k. are_alike k r) (map value kept))
        ∙ sym (list_any-append (λ k. are_alike k r) (map value kept) (value x ∷ []))
        ∙ ap (list_any (λ k. are_alike k r)) (sym (map-append value kept (x ∷ [])))

  module _ (kept links after : List V) (i : ℕ) (x : V) (k : Text) (old new : BTreeSet Text) (added : Bool) where
    -- one more link is read
    more : take (i + 1) links ≡ take i links ++ x ∷ [] → map value kept ≡ firsts (map value (take i links)) → firsts (map value (take (i + 1) links)) ≡ with_new (map value kept) (value x)
    more read all =
        ap (λ l. firsts (map value l)) read ∙ ap firsts (map-append value (take i links) (x ∷ []))
        ∙ fold-append with_new [] (map value (take i links)) (value x ∷ []) ∙ ap (λ l. with_new l (value x)) (sym all)

    -- a link whose sort key is not in the set is kept
    pub one_kept : take (i + 1) links ≡ take i links ++ x ∷ [] → AreFirsts kept old links i → k ≡ sort_key (key (value x)) → added ≡ not (contains text_order old k) → added ≡ true
        → Updates text_order old new k true → after ≡ kept ++ x ∷ [] → AreFirsts after new links (i + 1)
    one_kept read (all, known) named tested new_one updates pushed =
        let absent : contains text_order old (sort_key (key (value x))) ≡ false =
        ap (contains text_order old) (sym named) ∙ sym (flipped false _ (sym new_one ∙ tested)) in
        subst (λ l. AreFirsts l new links (i + 1)) (sym pushed) (
          sym (more read all ∙ new_link kept x old new known absent),
          new_keys kept x old new known (subst (λ b. Updates text_order old new b true) named updates),
        )

    -- any other is not
    pub none_kept : take (i + 1) links ≡ take i links ++ x ∷ [] → AreFirsts kept old links i → k ≡ sort_key (key (value x)) → added ≡ not (contains text_order old k) → added ≡ false
        → OnFalse added (IsUnchanged old new) → after ≡ kept → AreFirsts after new links (i + 1)
    none_kept read (all, known) named tested old_one same stays =
        let there : contains text_order old (sort_key (key (value x))) ≡ true =
        ap (contains text_order old) (sym named) ∙ sym (flipped true _ (sym old_one ∙ tested)) in
        subst (λ l. AreFirsts l new links (i + 1)) (sym stays) (
          sym (more read all ∙ old_link kept x old new known there),
          old_keys kept x old new known (subst (λ b. OnFalse b (IsUnchanged old new)) old_one same),
        )

-- What stands in a range of an index, and what is added to the index.
use Rattle.std.proofs.Common.{◌≡◌, Bool, true, false, cond, List, [], ◌∷◌, refl, sym, ◌∙◌, ap, map, Some, is_some}
use Rattle.std.proofs.lemmas.Map.Lookups.{exact_bytes}
use Rattle.std.specs.{declared.cmp.Ordering.{Ordering}, declared.cmp.Ordering.TheVariants.{Less, Equal, Greater}}
use Rattle.std.specs.declared.ops.Bound.TheVariants.{Excluded, Included}
use Rattle.std.specs.{BTreeMap.{BTreeMap, get, insert_entry, Updates}, BTreeMap.Range.{entries_between, range_contains}}
use Rattle.std.specs.{List.{AllByRecursion}, Map.{values_of}, Ordering.{is_eq, match_ordering}}
use Rattle.iref.specs.{Key.{key}, Keys.{text_order}, Reference.{ReferenceValue}, ReferenceSuffix.{reference_suffix}}
use Rattle.iref.specs.Rules.{Text}
use Rattle.iref_canonical.specs.{SortKey.{sort_key}, SortPrefix.{sort_prefix, sort_prefix_end}}
use Rattle.iref_canonical.proofs.{SortKeyLemmas.{text_order-sort_key}, SortPrefixLemmas.{below_in_map}}
use Rattle.iref_examples.specs.Below.{all_below, HasAdded}

-- one more element, which passes both tests or neither
passes : {X Y : Type 0} (f : X → Y) (b c : Bool) (x : X) (xs : List X) (ys : List Y) → b ≡ c → map f xs ≡ ys → map f (cond b (x ∷ xs) xs) ≡ cond c (f x ∷ ys) ys
passes f true true x xs ys same rest = ap (λ l. f x ∷ l) rest
passes f false false x xs ys same rest = rest
passes f true false x xs ys same rest = ap (λ b. map f (cond b (x ∷ xs) xs)) same ∙ rest
passes f false true x xs ys same rest = ap (λ b. map f (cond b (x ∷ xs) xs)) same ∙ ap (λ l. f x ∷ l) rest

module _ {U : Type 0} (value : U → ReferenceValue) where
  -- the entries in the range of a URI are those below it
  pub in_range : (above : ReferenceValue) (es : List (Text × U)) → AllByRecursion (λ e. e.0 ≡ sort_key (key (value e.1))) es
      → map (λ e. value e.1) (entries_between text_order (Included (sort_prefix (key above))) (Excluded (sort_prefix_end (key above))) es) ≡ all_below above (map value (values_of es))
  in_range above [] all = refl
  in_range above (e ∷ es) all =
      passes (λ (d : Text × U). value d.1) (range_contains text_order (Included (sort_prefix (key above))) (Excluded (sort_prefix_end (key above))) e.0)
      (is_some (reference_suffix above (value e.1))) e (entries_between text_order (Included (sort_prefix (key above))) (Excluded (sort_prefix_end (key above))) es)
      (all_below above (map value (values_of es)))
      (ap (range_contains text_order (Included (sort_prefix (key above))) (Excluded (sort_prefix_end (key above)))) all.0 ∙ below_in_map above (value e.1))
      (in_range above es all.1)

  -- a URI that stands in place of another, under the key that was there, or before or behind it
  placed : (k : Text) (u : U) → k ≡ sort_key (key (value u)) → (o : Ordering) (e : Text × U) (es new : List (Text × U)) → (o ≡ Equal → k ≡ e.0)
      → AllByRecursion (λ d. d.0 ≡ sort_key (key (value d.1))) (e ∷ es) → AllByRecursion (λ d. d.0 ≡ sort_key (key (value d.1))) new
      → AllByRecursion (λ d. d.0 ≡ sort_key (key (value d.1))) (match_ordering o ((k, u) ∷ e ∷ es) ((e.0, u) ∷ es) (e ∷ new))
  placed k u is Less e es new same all more = (is, all)
  placed k u is Equal e es new same all more = (sym (same refl) ∙ is, all.1)
  placed k u is Greater e es new same all more = (all.0, more)

  pub inserted : (k : Text) (u : U) → k ≡ sort_key (key (value u)) → (es : List (Text × U)) → AllByRecursion (λ e. e.0 ≡ sort_key (key (value e.1))) es
      → AllByRecursion (λ e. e.0 ≡ sort_key (key (value e.1))) (insert_entry text_order es k u)
  inserted k u is [] all = (is, tt)
  inserted k u is (e ∷ es) all = placed k u is (text_order k e.0) e es (insert_entry text_order es k u) (exact_bytes k e.0) all (inserted k u is es all.1)

  -- the URI is found by each of its spellings
  pub added : (old new : BTreeMap Text U) (k : Text) (u : U) → k ≡ sort_key (key (value u)) → Updates text_order old new k (Some u) → HasAdded value old new u
  added old new k u is updates r =
      updates.0 (sort_key (key r))
      ∙ ap (λ o. cond (is_eq o) (Some u) (get text_order old (sort_key (key r)))) (ap (λ t. text_order t (sort_key (key r))) is ∙ text_order-sort_key (key (value u)) (key r))

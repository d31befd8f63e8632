-- The entries at places, as places change.
use Rattle.std.proofs.Common.{arith, ◌≡◌, ◌≢◌, ℕ, zero, suc, ◌+◌, ◌≤◌, Bool, true, false, ◌||◌, not, List, [], ◌∷◌, ◌++◌, length, map, refl, sym, ap, ◌∙◌, Option, Some, None, if◌then◌else◌}
use Rattle.std.proofs.lemmas.Bool.{both_ways, false_from_ne_true, or_parts, or_right}
use Rattle.std.proofs.{lemmas.List.{get_or_append_left, set-get_or}, Math.ListN.{set}}
use Rattle.std.specs.Cmp.Lexicographic.{bytes_decides}
use Rattle.iref_grammar.specs.Rules.{Text}
use Rattle.iref.specs.PrefixTable.{PrefixEntry, PrefixTable, has_label, is_taken, removed, with_iri}
use Rattle.iref.specs.{PrefixPlaces.{AreWithin, entries_at, entry_at}, PrefixTree.{place_at}}

-- ---- labels

module _ (label : Text) (e : PrefixEntry) where
  labelled : e.label ≡ label → has_label label e ≡ true
  labelled is = (bytes_decides e.label label).1 is

  unlabelled : e.label ≢ label → has_label label e ≡ false
  unlabelled other = false_from_ne_true (has_label label e) (λ h. other ((bytes_decides e.label label).0 h))

  has_other : has_label label e ≡ false → e.label ≢ label
  has_other h is = both_ways (has_label label e) h (labelled is)

  module _ (table : PrefixTable) where
    removed_here : e.label ≡ label → removed label (e ∷ table) ≡ removed label table
    unfolding removed
    removed_here is = ap (λ b. if not b then e ∷ removed label table else removed label table) (labelled is)

    removed_behind : e.label ≢ label → removed label (e ∷ table) ≡ e ∷ removed label table
    unfolding removed
    removed_behind other = ap (λ b. if not b then e ∷ removed label table else removed label table) (unlabelled other)

  module _ (iri : Text) where
    with_iri_here : e.label ≡ label → with_iri label iri e ≡ record { label = label; iri = iri }
    with_iri_here is = ap (λ (b : Bool). if b then record { label = label; iri = iri } else e) (labelled is)

    with_iri_other : e.label ≢ label → with_iri label iri e ≡ e
    with_iri_other other = ap (λ (b : Bool). if b then record { label = label; iri = iri } else e) (unlabelled other)

-- where the label has no entry, nothing is removed or replaced
pub removed_none : (label : Text) (table : PrefixTable) → is_taken label table ≡ false → removed label table ≡ table
unfolding removed
removed_none label [] free = refl
removed_none label (e ∷ table) free =
    let parts = or_parts (has_label label e) (is_taken label table) free in
    removed_behind label e table (has_other label e parts.0) ∙ ap (λ t. e ∷ t) (removed_none label table parts.1)

pub changed_none : (label iri : Text) (table : PrefixTable) → is_taken label table ≡ false → map (with_iri label iri) table ≡ table
changed_none label iri [] free = refl
changed_none label iri (e ∷ table) free =
    let parts = or_parts (has_label label e) (is_taken label table) free in
    (λ i. with_iri_other label e iri (has_other label e parts.0) i ∷ changed_none label iri table parts.1 i)

-- ---- more entries and more places

pub entries_spared : (all : PrefixTable) (places : List (Option ℕ)) → entries_at all (places ++ None ∷ []) ≡ entries_at all places
unfolding entries_at
entries_spared all [] = refl
entries_spared all (None ∷ places) = entries_spared all places
entries_spared all (Some m ∷ places) = ap (λ t. entry_at all m ∷ t) (entries_spared all places)

-- an entry stands at the last place, where none stood
pub entries_put : (all : PrefixTable) (places : List (Option ℕ)) (n : ℕ) → entries_at all (set (places ++ None ∷ []) (length places) (Some n)) ≡ entries_at all places ++ entry_at all n ∷ []
unfolding entries_at
entries_put all [] n = refl
entries_put all (None ∷ places) n = entries_put all places n
entries_put all (Some m ∷ places) n = ap (λ t. entry_at all m ∷ t) (entries_put all places n)

pub entries_of_more : (all : PrefixTable) (e : PrefixEntry) (places : List (Option ℕ)) → AreWithin all places → entries_at (all ++ e ∷ []) places ≡ entries_at all places
unfolding entries_at
entries_of_more all e [] within = refl
entries_of_more all e (None ∷ places) within = entries_of_more all e places (λ p n. within (suc p) n)
entries_of_more all e (Some m ∷ places) within =
    (λ i. get_or_append_left all (e ∷ []) (record { label = []; iri = [] }) m (within 0 m refl) i ∷ entries_of_more all e places (λ p n. within (suc p) n) i)

pub length_at_most : (all : PrefixTable) (places : List (Option ℕ)) → length (entries_at all places) ≤ length places
unfolding entries_at
length_at_most all [] = omega arith
length_at_most all (None ∷ places) = omega (arith, length_at_most all places)
length_at_most all (Some m ∷ places) = omega (arith, length_at_most all places)

module _ (all : PrefixTable) where
  -- ---- whether a label has an entry

  pub taken_at : (places : List (Option ℕ)) (p n : ℕ) (label : Text) → place_at places p ≡ Some n → (entry_at all n).label ≡ label → is_taken label (entries_at all places) ≡ true
  unfolding entries_at
  taken_at [] p n label at is = absurd (cc at)
  taken_at (None ∷ places) zero n label at is = absurd (cc at)
  taken_at (None ∷ places) (suc p) n label at is = taken_at places p n label at is
  taken_at (Some m ∷ places) zero n label at is =
      let same : m ≡ n = cc at in
      ap (λ b. b || is_taken label (entries_at all places)) (labelled label (entry_at all m) (ap (λ k. (entry_at all k).label) same ∙ is))
  taken_at (Some m ∷ places) (suc p) n label at is = or_right (has_label label (entry_at all m)) (is_taken label (entries_at all places)) (taken_at places p n label at is)

  pub not_taken : (places : List (Option ℕ)) (label : Text) → ((p n : ℕ) → place_at places p ≡ Some n → (entry_at all n).label ≢ label) → is_taken label (entries_at all places) ≡ false
  unfolding entries_at
  not_taken [] label others = refl
  not_taken (None ∷ places) label others = not_taken places label (λ p n. others (suc p) n)
  not_taken (Some m ∷ places) label others =
      ap (λ b. b || is_taken label (entries_at all places)) (unlabelled label (entry_at all m) (others 0 m refl)) ∙ not_taken places label (λ p n. others (suc p) n)

  pub none_labelled : (places : List (Option ℕ)) (label : Text) → is_taken label (entries_at all places) ≡ false → (p n : ℕ) → place_at places p ≡ Some n → (entry_at all n).label ≢ label
  none_labelled places label free p n at is = both_ways (is_taken label (entries_at all places)) free (taken_at places p n label at is)

  -- ---- one place changes, that of the only entry of a label

  abbrev pub IsOnlyAt : List (Option ℕ) → ℕ → Text → Type 0
  IsOnlyAt places p label = (q m : ℕ) → place_at places q ≡ Some m → (entry_at all m).label ≡ label → q ≡ p

  -- the entry is behind the first place, and so is the only place
  only_behind : (o : Option ℕ) (places : List (Option ℕ)) (p : ℕ) (label : Text) → IsOnlyAt (o ∷ places) (suc p) label → IsOnlyAt places p label
  only_behind o places p label only q m at is = let same = only (suc q) m at is in omega arith

  not_first : (m : ℕ) (places : List (Option ℕ)) (p : ℕ) (label : Text) → IsOnlyAt (Some m ∷ places) (suc p) label → (entry_at all m).label ≢ label
  not_first m places p label only is = let same = only 0 m refl is in absurd (omega arith)

  not_behind : (m : ℕ) (places : List (Option ℕ)) (label : Text) → IsOnlyAt (Some m ∷ places) 0 label → is_taken label (entries_at all places) ≡ false
  not_behind m places label only = not_taken places label (λ q k at is. let same = only (suc q) k at is in absurd (omega arith))

  pub entries_cleared : (places : List (Option ℕ)) (p n : ℕ) (label : Text) → place_at places p ≡ Some n → (entry_at all n).label ≡ label → IsOnlyAt places p label
      → entries_at all (set places p None) ≡ removed label (entries_at all places)
  unfolding entries_at
  entries_cleared [] p n label at is only = absurd (cc at)
  entries_cleared (None ∷ places) zero n label at is only = absurd (cc at)
  entries_cleared (None ∷ places) (suc p) n label at is only = entries_cleared places p n label at is (only_behind None places p label only)
  entries_cleared (Some m ∷ places) zero n label at is only =
      let same : m ≡ n = cc at in
      sym (removed_here label (entry_at all m) (entries_at all places) (ap (λ k. (entry_at all k).label) same ∙ is) ∙ removed_none label (entries_at all places) (not_behind m places label only))
  entries_cleared (Some m ∷ places) (suc p) n label at is only =
      ap (λ t. entry_at all m ∷ t) (entries_cleared places p n label at is (only_behind (Some m) places p label only))
      ∙ sym (removed_behind label (entry_at all m) (entries_at all places) (not_first m places p label only))

  pub entries_changed : (places : List (Option ℕ)) (p n k : ℕ) (label iri : Text) → place_at places p ≡ Some n → (entry_at all n).label ≡ label → IsOnlyAt places p label → entry_at all k ≡ record { label = label; iri = iri }
      → entries_at all (set places p (Some k)) ≡ map (with_iri label iri) (entries_at all places)
  unfolding entries_at
  entries_changed [] p n k label iri at is only new = absurd (cc at)
  entries_changed (None ∷ places) zero n k label iri at is only new = absurd (cc at)
  entries_changed (None ∷ places) (suc p) n k label iri at is only new = entries_changed places p n k label iri at is (only_behind None places p label only) new
  entries_changed (Some m ∷ places) zero n k label iri at is only new =
      let same : m ≡ n = cc at in
      let here : entry_at all k ≡ with_iri label iri (entry_at all m) = new ∙ sym (with_iri_here label (entry_at all m) iri (ap (λ k. (entry_at all k).label) same ∙ is)) in
      let behind : entries_at all places ≡ map (with_iri label iri) (entries_at all places) = sym (changed_none label iri (entries_at all places) (not_behind m places label only)) in
      (λ i. here i ∷ behind i)
  entries_changed (Some m ∷ places) (suc p) n k label iri at is only new =
      let here : entry_at all m ≡ with_iri label iri (entry_at all m) = sym (with_iri_other label (entry_at all m) iri (not_first m places p label only)) in
      (λ i. here i ∷ entries_changed places p n k label iri at is (only_behind (Some m) places p label only) new i)

  -- the entry has this IRI already
  pub entries_kept : (places : List (Option ℕ)) (label iri : Text) (p n : ℕ) → place_at places p ≡ Some n → entry_at all n ≡ record { label = label; iri = iri } → IsOnlyAt places p label
      → map (with_iri label iri) (entries_at all places) ≡ entries_at all places
  entries_kept places label iri p n at is only =
      sym (entries_changed places p n n label iri at (ap (λ (e : PrefixEntry). e.label) is) only is) ∙ ap (entries_at all) (ap (set places p) (sym at) ∙ set-get_or places p None)

  pub length_cleared : (places : List (Option ℕ)) (p n : ℕ) → place_at places p ≡ Some n → length (entries_at all (set places p None)) + 1 ≡ length (entries_at all places)
  unfolding entries_at
  length_cleared [] p n at = absurd (cc at)
  length_cleared (None ∷ places) zero n at = absurd (cc at)
  length_cleared (None ∷ places) (suc p) n at = length_cleared places p n at
  length_cleared (Some m ∷ places) zero n at = omega arith
  length_cleared (Some m ∷ places) (suc p) n at = omega (arith, length_cleared places p n at)

  pub length_changed : (places : List (Option ℕ)) (p n k : ℕ) → place_at places p ≡ Some n → length (entries_at all (set places p (Some k))) ≡ length (entries_at all places)
  unfolding entries_at
  length_changed [] p n k at = absurd (cc at)
  length_changed (None ∷ places) zero n k at = absurd (cc at)
  length_changed (None ∷ places) (suc p) n k at = length_changed places p n k at
  length_changed (Some m ∷ places) zero n k at = refl
  length_changed (Some m ∷ places) (suc p) n k at = omega (arith, length_changed places p n k at)

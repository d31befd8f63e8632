-- What a table keeps when an entry is added, inserted, replaced or removed.
use Rattle.std.proofs.Common.{arith, ◌≡◌, ◌≢◌, ℕ, ◌+◌, ◌-◌, ◌<◌, not, ◌&&◌, ◌||◌, inl, inr, false, true, List, [], ◌∷◌, ◌++◌, length, map, refl, sym, ap, subst, ◌∙◌, ◌==◌, Option, Some, None, IfSome}
use Rattle.std.proofs.{lemmas.Bool.{cases_lt}, lemmas.List.{get_or_push, get_or_past, length_push, length-map}}
use Rattle.std.proofs.Math.ListN.{set, length-set}
use Rattle.iref_grammar.specs.Rules.{Text}
use Rattle.iref.specs.PrefixTable.{PrefixEntry, PrefixTable, is_taken, removed, with_iri}
use Rattle.iref.specs.PrefixTree.{all_of, key_of, keys_of, lead_at, lead_in, leads_of, places_of, text_at, place_at, HasPlace, IsAbsent, IsFirst, IsFirstOf, IsLed, IsTree}
use Rattle.iref.specs.PrefixPlaces.{entries_at, entry_at, first_of, holds, lead_to, stands_there, ArePlaces, AreWithin, IsAddedTo, IsBook, IsHeld, IsShared}
use Rattle.iref.specs.{declared.compact.entry.Entries.{Entries}, declared.compact.entry.Key.TheVariants.{Label, Iri}}
use Rattle.iref.specs.{declared.compact.entry.Lead.{Lead}, declared.compact.entry.Row.{Row}}
use Rattle.iref.specs.{declared.compact.shared.Shared.{Shared}, declared.compact.table.Added.{Added}}
use Rattle.iref.specs.{declared.compact.table.Held.{Held}, declared.compact.tree.Tree.{Tree}}
use Rattle.iref.proofs.PrefixChangeLemmas.{keys_more, by_set, inside_put, inside_taken, none_stands, IsChanged, Placed, placed_moved, placed_put, placed_taken, places_kept, spare_place, changed_set, within_after, once_after, led_after, lone_lead, lead_gone, first_only}
use Rattle.iref.proofs.{PrefixFindLemmas.{entry_key, rows_all}, PrefixNewTextLemmas.{first_again, text_old}}
use Rattle.iref.proofs.PrefixPlaceLemmas.{entries_put, entries_spared, entries_cleared, entries_changed, length_cleared, length_changed, none_labelled, not_taken, taken_at}

-- the same lists
pub book_is : (all all' : PrefixTable) (places places' : List (Option ℕ)) (ls ls' ms ms' : List (Option Lead)) (len : ℕ) (by_label by_iri : Tree) (pairs : Shared) → all' ≡ all → places' ≡ places → ls' ≡ ls → ms' ≡ ms
    → IsBook all places ls ms len by_label by_iri pairs → IsBook all' places' ls' ms' len by_label by_iri pairs
book_is all all' places places' ls ls' ms ms' len by_label by_iri pairs a p l m book =
    subst (λ a. IsBook a places' ls' ms' len by_label by_iri pairs) (sym a) (subst (λ p. IsBook all p ls' ms' len by_label by_iri pairs) (sym p)
    (subst (λ l. IsBook all places l ms' len by_label by_iri pairs) (sym l) (subst (λ m. IsBook all places ls m len by_label by_iri pairs) (sym m) book)))

-- there is no entry
pub book_empty : (entries : Entries) (by_label by_iri : Tree) (pairs : Shared) → entries.rows.items ≡ [] → IsTree [] by_label → IsTree [] by_iri → ((m p : ℕ) → holds pairs m p ≡ false)
    → IsBook (all_of entries) (places_of entries) (leads_of Label entries) (leads_of Iri entries) 0 by_label by_iri pairs
unfolding entries_at
book_empty entries by_label by_iri pairs none labels iris free = book_is [] (all_of entries) [] (places_of entries) [] (leads_of Label entries) [] (leads_of Iri entries) 0 by_label by_iri pairs
    (ap (map (λ (row : Row). row.entry)) none) (ap (map (λ (row : Row). row.here)) none) (ap (map (lead_in Label)) none) (ap (map (lead_in Iri)) none) (record {
      within = λ p n at. cc at;
      once = λ p q m n at _ _. cc at;
      counted = refl;
      labels = labels;
      labels_led = record { long = refl; each = λ n f. absurd (let l = f.within in omega arith) };
      iris = iris;
      iris_led = record { long = refl; each = λ n f. absurd (let l = f.within in omega arith) };
      shared = record { first = λ m f. absurd (let l = f.within in omega arith); past = λ m p _. free m p };
    })

-- room was made
pub book_again : (old new : Entries) (len : ℕ) (by_label by_iri by_label' by_iri' : Tree) (pairs : Shared) → IsBook (all_of old) (places_of old) (leads_of Label old) (leads_of Iri old) len by_label by_iri pairs → new.rows.items ≡ old.rows.items
    → ((texts : List Text) → IsTree texts by_label → IsTree texts by_label') → ((texts : List Text) → IsTree texts by_iri → IsTree texts by_iri') → IsBook (all_of new) (places_of new) (leads_of Label new) (leads_of Iri new) len by_label' by_iri' pairs
book_again old new len by_label by_iri by_label' by_iri' pairs book is labels iris = book_is (all_of old) (all_of new) (places_of old) (places_of new) (leads_of Label old) (leads_of Label new) (leads_of Iri old) (leads_of Iri new) len by_label' by_iri' pairs
    (ap (map (λ (row : Row). row.entry)) is) (ap (map (λ (row : Row). row.here)) is) (ap (map (lead_in Label)) is) (ap (map (lead_in Iri)) is) (record {
      within = book.within;
      once = book.once;
      counted = book.counted;
      labels = labels (keys_of Label (all_of old)) book.labels;
      labels_led = book.labels_led;
      iris = iris (keys_of Iri (all_of old)) book.iris;
      iris_led = book.iris_led;
      shared = book.shared;
    })

-- a place of the table is one of its rows
pub rows_places : (entries : Entries) → length (places_of entries) ≡ length entries.rows.items
rows_places entries = length-map entries.rows.items (λ (row : Row). row.here)

pub inside_rows : (entries : Entries) (places : List (Option ℕ)) (first : Option ℕ) → places_of entries ≡ places → IfSome first (λ q. q < length places) → IfSome first (λ q. q < length entries.rows.items)
inside_rows entries places first is = subst (λ n. IfSome first (λ q. q < n)) (sym (ap length is) ∙ rows_places entries)

-- what was added is read by its number, and stands at no place
module _ (old new : Entries) (e : PrefixEntry) (added : Added) (is : IsAddedTo old new e added) where
  pub added_entry : (entry_at (all_of new) added.number ≡ e) × (added.number < length (all_of new))
  added_entry =
      let size = ap length is.all in
      (ap (λ a. entry_at a added.number) is.all ∙ get_or_push (all_of old) e _ added.number (sym is.number), omega (arith, is.number, length_push (all_of old) e))

  number_is : added.number ≡ length (places_of old)
  number_is = omega (arith, is.number, rows_all old, rows_places old)

  pub added_place : (added.number < length (places_of new)) × (place_at (places_of new) added.number ≡ None)
  added_place =
      let size = ap length is.places in
      (omega (arith, number_is, length_push (places_of old) None), ap (λ s. place_at s added.number) is.places ∙ get_or_push (places_of old) None None added.number (sym number_is))

  -- it is the last one of the table
  pub added_last : entries_at (all_of new) (set (places_of new) added.number (Some added.number)) ≡ entries_at (all_of new) (places_of new) ++ e ∷ []
  added_last =
      ap (λ s. entries_at (all_of new) (set s added.number (Some added.number))) is.places ∙ ap (λ n. entries_at (all_of new) (set (places_of old ++ None ∷ []) n (Some added.number))) number_is
      ∙ entries_put (all_of new) (places_of old) added.number
      ∙ (λ i. sym (ap (entries_at (all_of new)) is.places ∙ entries_spared (all_of new) (places_of old)) i ++ added_entry.0 i ∷ [])

module _ (all : PrefixTable) (places : List (Option ℕ)) (ls ms : List (Option Lead)) (len : ℕ) (by_label by_iri : Tree) (pairs : Shared) (book : IsBook all places ls ms len by_label by_iri pairs) where
  abbrev labels : List Text
  labels = keys_of Label all

  abbrev iris : List Text
  iris = keys_of Iri all

  -- ---- the entry of a label

  module _ (label : Text) where
    pub label_absent : IsAbsent labels label → is_taken label (entries_at all places) ≡ false
    label_absent absent = not_taken all places label (λ p n at same. absent n (omega (arith, book.within p n at, length-map all (key_of Label))) (sym (entry_key Label all n) ∙ same))

    pub label_placeless : (HasPlace labels places label → ⊥) → is_taken label (entries_at all places) ≡ false
    label_placeless none = not_taken all places label (λ p n at same. none (record { place = p; number = n; stands = at; is = sym (entry_key Label all n) ∙ same }))

    -- no place has the label
    label_free : is_taken label (entries_at all places) ≡ false → (p n : ℕ) → place_at places p ≡ Some n → text_at labels n ≢ label
    label_free free p n at same = none_labelled all places label free p n at (entry_key Label all n ∙ same)

    module _ (p o : ℕ) (stands : place_at places p ≡ Some o) (is : text_at labels o ≡ label) where
      -- no other place has it
      label_once : (q n : ℕ) → q ≢ p → place_at places q ≡ Some n → text_at labels n ≢ label
      label_once q n other at same = other (book.once q p n o at stands (same ∙ sym is))

      pub label_alone : (q n : ℕ) → place_at places q ≡ Some n → (entry_at all n).label ≡ label → q ≡ p
      label_alone q n at same = book.once q p n o at stands (sym (entry_key Label all n) ∙ same ∙ sym is)

      label_is : (entry_at all o).label ≡ label
      label_is = entry_key Label all o ∙ is

      pub label_taken : is_taken label (entries_at all places) ≡ true
      label_taken = taken_at all places p o label stands label_is

  -- where the IRI of a number leads, and its places
  placed : (n : ℕ) → IsFirst iris n → Placed iris places pairs n (lead_at ms n)
  placed n f = (book.iris_led.each n f, book.shared.first n f)

  -- after a change
  module _ (after : List (Option ℕ)) (p : ℕ) (x : Option ℕ) (changed : IsChanged places after p x) (within : AreWithin all after) where
    texts_within : (q n : ℕ) → place_at after q ≡ Some n → n < length iris
    texts_within q n at = omega (arith, within q n at, length-map all (key_of Iri))

    -- one IRI is that of what stood and stands there
    one_led : (m : ℕ) (lead : Option Lead) (pairs' : Shared) → IsFirst iris m → ((n : ℕ) → place_at places p ≡ Some n → text_at iris n ≡ text_at iris m) → ((n : ℕ) → x ≡ Some n → text_at iris n ≡ text_at iris m)
        → ((n q : ℕ) → n ≢ m → holds pairs' n q ≡ holds pairs n q) → Placed iris after pairs' m lead → IsLed iris after (set ms m lead) × IsShared iris after (set ms m lead) pairs'
    one_led m lead pairs' f was new others at =
        let each : (n : ℕ) → IsFirst iris n → Placed iris after pairs' n (lead_at (set ms m lead) n) =
        by_set (λ n o. IsFirst iris n → Placed iris after pairs' n o) ms m lead (let l = f.within in omega (arith, book.iris_led.long)) (λ _. at)
        (λ n other g. placed_moved places after p x changed iris pairs pairs' n (lead_at ms n) (λ k stands same. other (first_only iris n m g f (sym same ∙ was k stands)))
        (λ k is same. other (first_only iris n m g f (sym same ∙ new k is))) (λ q. others n q other) (placed n g)) in (
          record { long = length-set ms m lead ∙ book.iris_led.long; each = λ n g. (each n g).0 },
          record { first = λ n g. (each n g).1; past = λ n q l. others n q (λ is. let w = f.within in omega arith) ∙ book.shared.past n q l },
        )

    -- two IRIs are those of what stood and of what stands there
    both_led : (m j : ℕ) (lead late : Option Lead) (pairs' : Shared) → IsFirst iris m → IsFirst iris j → ((n : ℕ) → place_at places p ≡ Some n → text_at iris n ≡ text_at iris m) → ((n : ℕ) → x ≡ Some n → text_at iris n ≡ text_at iris j)
        → ((n q : ℕ) → n ≢ m → n ≢ j → holds pairs' n q ≡ holds pairs n q) → Placed iris after pairs' m lead → Placed iris after pairs' j late
        → IsLed iris after (set (set ms m lead) j late) × IsShared iris after (set (set ms m lead) j late) pairs'
    both_led m j lead late pairs' f h was new others at at_late =
        let each : (n : ℕ) → IsFirst iris n → Placed iris after pairs' n (lead_at (set (set ms m lead) j late) n) =
        by_set (λ n o. IsFirst iris n → Placed iris after pairs' n o) (set ms m lead) j late (let l = h.within in omega (arith, book.iris_led.long, length-set ms m lead)) (λ _. at_late)
        (λ n other. by_set (λ n o. n ≢ j → IsFirst iris n → Placed iris after pairs' n o) ms m lead (let l = f.within in omega (arith, book.iris_led.long)) (λ _ _. at)
        (λ n apart other g. placed_moved places after p x changed iris pairs pairs' n (lead_at ms n) (λ k stands same. apart (first_only iris n m g f (sym same ∙ was k stands)))
        (λ k is same. other (first_only iris n j g h (sym same ∙ new k is))) (λ q. others n q apart other) (placed n g)) n other) in (
          record { long = length-set (set ms m lead) j late ∙ length-set ms m lead ∙ book.iris_led.long; each = λ n g. (each n g).0 },
          record { first = λ n g. (each n g).1; past = λ n q l. others n q (λ is. let w = f.within in omega arith) (λ is. let w = h.within in omega arith) ∙ book.shared.past n q l },
        )

  -- ---- a last entry

  module _ (e : PrefixEntry) (p l m : ℕ) (is : entry_at all p ≡ e) (inside : p < length all) (label : IsFirstOf labels e.label l) (iri : IsFirstOf iris e.iri m) (free : is_taken e.label (entries_at all places) ≡ false) (inside_places : p < length places) (none : place_at places p ≡ None) where
    abbrev after : List (Option ℕ)
    after = set places p (Some p)

    changed : IsChanged places after p (Some p)
    changed = changed_set places p (Some p) inside_places

    label_text : text_at labels p ≡ e.label
    label_text = sym (entry_key Label all p) ∙ ap (λ (d : PrefixEntry). d.label) is

    iri_text : text_at iris p ≡ e.iri
    iri_text = sym (entry_key Iri all p) ∙ ap (λ (d : PrefixEntry). d.iri) is

    inserted_within : AreWithin all after
    inserted_within = within_after places after p (Some p) changed all book.within (λ n same. subst (λ j. j < length all) (cc same) inside)

    pub free_place : stands_there iris (text_at iris m) (place_at places p) ≡ false
    free_place = ap (stands_there iris (text_at iris m)) none

    module _ (pairs' : Shared) (first : Option ℕ) (made : ArePlaces pairs' m first (λ q. q == p || stands_there iris (text_at iris m) (place_at places q))) where
      inserted_placed : Placed iris after pairs' m (lead_to after first)
      inserted_placed = placed_put places after p (Some p) changed iris (texts_within after p (Some p) changed inserted_within) pairs' m first p refl (iri_text ∙ sym iri.1) made

      pub inserted_inside : IfSome first (λ q. q < length after)
      inserted_inside = inside_put places after p (Some p) changed iris (texts_within after p (Some p) changed inserted_within) pairs' m first p refl (iri_text ∙ sym iri.1) made

      pub book_inserted : entries_at all after ≡ entries_at all places ++ e ∷ [] → ((n q : ℕ) → n ≢ m → holds pairs' n q ≡ holds pairs n q)
          → IsBook all after (set ls l (Some (record { place = p; number = p }))) (set ms m (lead_to after first)) (len + 1) by_label by_iri pairs'
      book_inserted entries others =
          let led = one_led after p (Some p) changed inserted_within m (lead_to after first) pairs' iri.0 (λ n at. cc (at, none)) (λ j same. subst (λ j. text_at iris j ≡ text_at iris m) (cc same) (iri_text ∙ sym iri.1)) others inserted_placed in
          record {
            within = inserted_within;
            once = once_after places after p (Some p) changed labels book.once (λ j same q n other at alike. label_free e.label free q n at (alike ∙ subst (λ j. text_at labels j ≡ e.label) (cc same) label_text));
            counted = omega (arith, ap length entries, length_push (entries_at all places) e, book.counted);
            labels = book.labels;
            labels_led = led_after places after p (Some p) changed labels ls l _ book.labels_led label.0
                (λ n at. cc (at, none)) (λ j same. subst (λ j. text_at labels j ≡ text_at labels l) (cc same) (label_text ∙ sym label.1))
                (lone_lead places after p (Some p) changed labels p (text_at labels l) refl (omega (arith, inside, length-map all (key_of Label))) (label_text ∙ sym label.1) (λ q n other at alike. label_free e.label free q n at (alike ∙ label.1)));
            iris = book.iris;
            iris_led = led.0;
            shared = led.1;
          }

  -- ---- an entry that has a place

  module _ (label : Text) (p o l m : ℕ) (stands : place_at places p ≡ Some o) (is : text_at labels o ≡ label) (first_label : IsFirstOf labels label l) (first_iri : IsFirstOf iris (text_at iris o) m) where
    pub held_inside : p < length places
    held_inside = elim (cases_lt p (length places)) [ inl less ↦ less | inr past ↦ cc (get_or_past places p None past, stands) ]

    -- what stood there
    stood : (texts : List Text) (t : Text) → text_at texts o ≡ t → (n : ℕ) → place_at places p ≡ Some n → text_at texts n ≡ t
    stood texts t same n at = subst (λ j. text_at texts j ≡ t) (cc (stands, at)) same

    -- it is removed
    abbrev left : List (Option ℕ)
    left = set places p None

    changed_left : IsChanged places left p None
    changed_left = changed_set places p None held_inside

    removed_within : AreWithin all left
    removed_within = within_after places left p None changed_left all book.within (λ n same. cc same)

    pub removed_entries : entries_at all left ≡ removed label (entries_at all places)
    removed_entries = entries_cleared all places p o label stands (label_is label p o stands is) (label_alone label p o stands is)

    pub some_entry : 0 < len
    some_entry = omega (arith, length_cleared all places p o stands, book.counted)

    module _ (pairs' : Shared) (first : Option ℕ) (made : ArePlaces pairs' m first (λ q. not (q == p) && stands_there iris (text_at iris m) (place_at places q))) where
      removed_placed : Placed iris left pairs' m (lead_to left first)
      removed_placed = placed_taken places left p None changed_left iris (texts_within left p None changed_left removed_within) pairs' m first (λ k same. cc same) made

      pub removed_inside : IfSome first (λ q. q < length left)
      removed_inside = inside_taken places left p None changed_left iris (texts_within left p None changed_left removed_within) pairs' m first (λ k same. cc same) made

      pub book_removed : ((n q : ℕ) → n ≢ m → holds pairs' n q ≡ holds pairs n q) → IsBook all left (set ls l None) (set ms m (lead_to left first)) (len - 1) by_label by_iri pairs'
      book_removed others =
          let led = one_led left p None changed_left removed_within m (lead_to left first) pairs' first_iri.0 (stood iris (text_at iris m) (sym first_iri.1)) (λ j same. cc same) others removed_placed in
          record {
            within = removed_within;
            once = once_after places left p None changed_left labels book.once (λ j same. cc same);
            counted = omega (arith, length_cleared all places p o stands, book.counted);
            labels = book.labels;
            labels_led = led_after places left p None changed_left labels ls l None book.labels_led first_label.0
                (stood labels (text_at labels l) (is ∙ sym first_label.1)) (λ j same. cc same)
                (lead_gone places left p None changed_left labels (text_at labels l) refl (λ q n other at alike. label_once label p o stands is q n other at (alike ∙ first_label.1)));
            iris = book.iris;
            iris_led = led.0;
            shared = led.1;
          }

    -- another stands there
    module _ (iri : Text) (k j : ℕ) (new_is : entry_at all k ≡ record { label = label; iri = iri }) (inside : k < length all) (new_iri : IsFirstOf iris iri j) (apart : text_at iris o ≢ iri) where
      abbrev put : List (Option ℕ)
      put = set places p (Some k)

      changed_put : IsChanged places put p (Some k)
      changed_put = changed_set places p (Some k) held_inside

      new_label : text_at labels k ≡ label
      new_label = sym (entry_key Label all k) ∙ ap (λ (d : PrefixEntry). d.label) new_is

      new_text : text_at iris k ≡ iri
      new_text = sym (entry_key Iri all k) ∙ ap (λ (d : PrefixEntry). d.iri) new_is

      pub firsts_apart : m ≢ j
      firsts_apart same = apart (sym first_iri.1 ∙ ap (text_at iris) same ∙ new_iri.1)

      replaced_within : AreWithin all put
      replaced_within = within_after places put p (Some k) changed_put all book.within (λ n same. subst (λ i. i < length all) (cc same) inside)

      -- the new IRI did not stand there
      pub other_place : stands_there iris (text_at iris j) (place_at places p) ≡ false
      other_place = none_stands iris (text_at iris j) (place_at places p) (λ n at same. apart (sym (stood iris (text_at iris o) refl n at) ∙ same ∙ new_iri.1))

      pub replaced_entries : entries_at all put ≡ map (with_iri label iri) (entries_at all places)
      replaced_entries = entries_changed all places p o k label iri stands (label_is label p o stands is) (label_alone label p o stands is) new_is

      module _ (between pairs' : Shared) (old new : Option ℕ) (added : ArePlaces between j new (λ q. q == p || stands_there iris (text_at iris j) (place_at places q)))
          (others : (n q : ℕ) → n ≢ j → holds between n q ≡ holds pairs n q) (others' : (n q : ℕ) → n ≢ m → holds pairs' n q ≡ holds between n q) where
        -- the places of the old IRI, until it is taken away
        pub between_places : ArePlaces between m (first_of (lead_at ms m)) (λ q. stands_there iris (text_at iris m) (place_at places q))
        between_places = places_kept pairs between m (first_of (lead_at ms m)) _ (λ q. others m q firsts_apart) (book.shared.first m first_iri.0)

        module _ (made : ArePlaces pairs' m old (λ q. not (q == p) && stands_there iris (text_at iris m) (place_at places q))) where
          not_old : (i : ℕ) → Some k ≡ Some i → text_at iris i ≢ text_at iris m
          not_old i same alike = apart (sym first_iri.1 ∙ sym alike ∙ subst (λ i. text_at iris i ≡ iri) (cc same) new_text)

          new_places : ArePlaces pairs' j new (λ q. q == p || stands_there iris (text_at iris j) (place_at places q))
          new_places = places_kept between pairs' j new _ (λ q. others' j q (λ same. firsts_apart (sym same))) added

          pub old_inside : IfSome old (λ q. q < length put)
          old_inside = inside_taken places put p (Some k) changed_put iris (texts_within put p (Some k) changed_put replaced_within) pairs' m old not_old made

          pub new_inside : IfSome new (λ q. q < length put)
          new_inside = inside_put places put p (Some k) changed_put iris (texts_within put p (Some k) changed_put replaced_within) pairs' j new k refl (new_text ∙ sym new_iri.1) new_places

          pub book_replaced : IsBook all put (set ls l (Some (record { place = p; number = k }))) (set (set ms m (lead_to put old)) j (lead_to put new)) len by_label by_iri pairs'
          book_replaced =
              let within = texts_within put p (Some k) changed_put replaced_within in
              let old_placed : Placed iris put pairs' m (lead_to put old) = placed_taken places put p (Some k) changed_put iris within pairs' m old not_old made in
              let new_placed : Placed iris put pairs' j (lead_to put new) = placed_put places put p (Some k) changed_put iris within pairs' j new k refl (new_text ∙ sym new_iri.1) new_places in
              let led = both_led put p (Some k) changed_put replaced_within m j (lead_to put old) (lead_to put new) pairs' first_iri.0 new_iri.0 (stood iris (text_at iris m) (sym first_iri.1))
              (λ i same. subst (λ i. text_at iris i ≡ text_at iris j) (cc same) (new_text ∙ sym new_iri.1)) (λ n q not_old not_new. others' n q not_old ∙ others n q not_new) old_placed new_placed in
              record {
                within = replaced_within;
                once = once_after places put p (Some k) changed_put labels book.once (λ i same q n other at alike. label_once label p o stands is q n other at (alike ∙ subst (λ i. text_at labels i ≡ label) (cc same) new_label));
                counted = book.counted ∙ sym (length_changed all places p o k stands);
                labels = book.labels;
                labels_led = led_after places put p (Some k) changed_put labels ls l _ book.labels_led first_label.0
                    (stood labels (text_at labels l) (is ∙ sym first_label.1)) (λ i same. subst (λ i. text_at labels i ≡ text_at labels l) (cc same) (new_label ∙ sym first_label.1))
                    (lone_lead places put p (Some k) changed_put labels k (text_at labels l) refl (omega (arith, inside, length-map all (key_of Label))) (new_label ∙ sym first_label.1) (λ q n other at alike. label_once label p o stands is q n other at (alike ∙ first_label.1)));
                iris = book.iris;
                iris_led = led.0;
                shared = led.1;
              }

-- one more entry, which has no place
pub iri_again : (old new : Entries) (n : ℕ) (e : PrefixEntry) → n < length (all_of old) → all_of new ≡ all_of old ++ e ∷ [] → text_at (keys_of Iri (all_of new)) n ≡ text_at (keys_of Iri (all_of old)) n
iri_again old new n e inside all_is =
    ap (λ texts. text_at texts n) (ap (keys_of Iri) all_is ∙ keys_more Iri (all_of old) e)
    ∙ text_old (keys_of Iri (all_of old)) e.iri n (omega (arith, inside, length-map (all_of old) (key_of Iri)))

pub held_again : (old new : Entries) (label : Text) (held : Held) (e : PrefixEntry) → AreWithin (all_of old) (places_of old) → all_of new ≡ all_of old ++ e ∷ [] → places_of new ≡ places_of old ++ None ∷ [] → IsHeld old label held → IsHeld new label held
held_again old new label held e within all_is places_is is =
    let inside = within held.lead.place held.lead.number is.stands in
    let by_label : keys_of Label (all_of new) ≡ keys_of Label (all_of old) ++ e.label ∷ [] = ap (keys_of Label) all_is ∙ keys_more Label (all_of old) e in
    let by_iri : keys_of Iri (all_of new) ≡ keys_of Iri (all_of old) ++ e.iri ∷ [] = ap (keys_of Iri) all_is ∙ keys_more Iri (all_of old) e in
    let same = iri_again old new held.lead.number e inside all_is in
    record {
      stands = ap (λ places. place_at places held.lead.place) places_is ∙ spare_place (places_of old) held.lead.place ∙ is.stands;
      is = ap (λ texts. text_at texts held.lead.number) by_label ∙ text_old (keys_of Label (all_of old)) e.label held.lead.number (omega (arith, inside, length-map (all_of old) (key_of Label))) ∙ is.is;
      label = subst (λ texts. IsFirstOf texts label held.label) (sym by_label) (first_again (keys_of Label (all_of old)) e.label label held.label is.label);
      iri = subst (λ t. IsFirstOf (keys_of Iri (all_of new)) t held.iri) (sym same)
          (subst (λ texts. IsFirstOf texts (text_at (keys_of Iri (all_of old)) held.lead.number) held.iri) (sym by_iri) (first_again (keys_of Iri (all_of old)) e.iri (text_at (keys_of Iri (all_of old)) held.lead.number) held.iri is.iri));
    }

-- the entry has this IRI already
pub same_iri : (all : PrefixTable) (n : ℕ) (label iri : Text) → text_at (keys_of Label all) n ≡ label → text_at (keys_of Iri all) n ≡ iri → entry_at all n ≡ record { label = label; iri = iri }
same_iri all n label iri label_is iri_is =
    let by_label = entry_key Label all n ∙ label_is in
    let by_iri = entry_key Iri all n ∙ iri_is in
    λ i. record { label = by_label i; iri = by_iri i }

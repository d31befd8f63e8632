-- The entries that a tree finds.
use Rattle.std.proofs.Common.{arith, ◌≡◌, ◌≢◌, ℕ, zero, suc, ◌+◌, ◌-◌, ◌*◌, ◌<◌, ◌≤◌, inl, inr, true, false, List, [], ◌∷◌, length, get_or, take, refl, sym, ap, subst, ◌∙◌, ⊎_elim, nat_eq, MatchOption, Option, Some, None}
use Rattle.std.proofs.lemmas.Bool.{cases_lt, cases_eq, false_from_ne_true}
use Rattle.std.proofs.{lemmas.List.{length-take, length-take-le, length-map}, lemmas.List.Sums.{common_prefix_len-le}}
use Rattle.std.specs.{List.{AllByRecursion, common_prefix_len, find}, Cmp.Lexicographic.{bytes_decides}}
use Rattle.iref_grammar.specs.Rules.{Text}
use Rattle.iref.specs.PrefixTable.{PrefixEntry, PrefixTable, fits, longest_fit}
use Rattle.iref.specs.{declared.compact.entry.Entries.{Entries}, declared.compact.entry.Key.{Key}}
use Rattle.iref.specs.PrefixPlaces.{AreWithin, entries_at, entry_at}
use Rattle.iref.specs.{declared.compact.entry.Key.TheVariants.{Label, Iri}, declared.compact.entry.Lead.{Lead}}
use Rattle.iref.specs.{declared.compact.entry.Row.{Row}, declared.compact.tree.Child.{Child}}
use Rattle.iref.specs.{declared.compact.tree.Child.TheVariants.{Inner, Leaf}, declared.compact.tree.Near.{Near}}
use Rattle.iref.specs.declared.compact.tree.Tree.{Tree}
use Rattle.iref.specs.PrefixTree.{all_of, key_of, keys_of, has_key, text_at, place_at, lead_at, node_at, SameBits, AreBytes, HasPlace, IsLead, IsLed, IsAbsent, IsFirst, IsFirstOf, IsFront, IsTree, IsFit, IsEnded, IsNear}
use Rattle.iref.proofs.PrefixBitLemmas.{same_bits_refl, same_bits_sym, same_bits_trans, same_bits_less, as_long, no_longer, goes_within, goes_there, ends_there, same_text, common_bits, common_upto, bits_of_begun, begins_by_bits, same_byte}
use Rattle.iref.proofs.PrefixWayLemmas.{root_link}

-- ---- the entries at places

-- what an entry is found by
pub entry_key : (key : Key) (all : PrefixTable) (n : ℕ) → key_of key (entry_at all n) ≡ text_at (keys_of key all) n
entry_key Label [] n = refl
entry_key Iri [] n = refl
entry_key key (e ∷ all) zero = refl
entry_key key (e ∷ all) (suc n) = entry_key key all n

no_entry : (key : Key) (text : Text) (all : PrefixTable) (places : List (Option ℕ)) → ((p n : ℕ) → place_at places p ≡ Some n → key_of key (entry_at all n) ≢ text) → find (has_key key text) (entries_at all places) ≡ None
unfolding entries_at
no_entry key text all [] none = refl
no_entry key text all (None ∷ places) none = no_entry key text all places (λ p n. none (suc p) n)
no_entry key text all (Some m ∷ places) none =
    let differs : has_key key text (entry_at all m) ≡ false = false_from_ne_true (has_key key text (entry_at all m)) (λ h. none 0 m refl ((bytes_decides (key_of key (entry_at all m)) text).0 h)) in
    grind (arith, no_entry key text all places (λ p n. none (suc p) n))

first_entry : (key : Key) (text : Text) (all : PrefixTable) (places : List (Option ℕ)) (p n : ℕ) → place_at places p ≡ Some n → key_of key (entry_at all n) ≡ text
    → ((q m : ℕ) → q < p → place_at places q ≡ Some m → key_of key (entry_at all m) ≢ text) → find (has_key key text) (entries_at all places) ≡ Some (entry_at all n)
unfolding entries_at
first_entry key text all [] p n at is new = absurd (cc at)
first_entry key text all (None ∷ places) zero n at is new = absurd (cc at)
first_entry key text all (None ∷ places) (suc p) n at is new = first_entry key text all places p n at is (λ q m l. new (suc q) m (omega arith))
first_entry key text all (Some m ∷ places) zero n at is new =
    let same : m ≡ n = cc at in
    let found : has_key key text (entry_at all m) ≡ true = (bytes_decides (key_of key (entry_at all m)) text).1 (ap (λ k. key_of key (entry_at all k)) same ∙ is) in
    grind arith
first_entry key text all (Some m ∷ places) (suc p) n at is new =
    let differs : has_key key text (entry_at all m) ≡ false = false_from_ne_true (has_key key text (entry_at all m)) (λ h. new 0 m (omega arith) refl ((bytes_decides (key_of key (entry_at all m)) text).0 h)) in
    grind (arith, first_entry key text all places p n at is (λ q k l. new (suc q) k (omega arith)))

module _ (key : Key) (all : PrefixTable) (places : List (Option ℕ)) (t : Text) where
  pub none_placed : (HasPlace (keys_of key all) places t → ⊥) → find (has_key key t) (entries_at all places) ≡ None
  none_placed none = no_entry key t all places (λ p n at is. none (record { place = p; number = n; stands = at; is = sym (entry_key key all n) ∙ is }))

  pub first_placed : (lead : Lead) → IsLead (keys_of key all) places t lead → find (has_key key t) (entries_at all places) ≡ Some (entry_at all lead.number)
  first_placed lead is = first_entry key t all places lead.place lead.number is.stands (entry_key key all lead.number ∙ is.is)
      (λ q m l at same. is.first q m l at (sym (entry_key key all m) ∙ same))

  -- what no entry ever had has no place
  pub absent_placed : AreWithin all places → IsAbsent (keys_of key all) t → find (has_key key t) (entries_at all places) ≡ None
  absent_placed within absent = none_placed (λ has. absent has.number (omega (arith, within has.place has.number has.stands, length-map all (key_of key))) has.is)

-- how many entries there are
pub rows_all : (entries : Entries) → length (all_of entries) ≡ length entries.rows.items
rows_all entries = length-map entries.rows.items (λ (row : Row). row.entry)

pub rows_texts : (key : Key) (entries : Entries) → length (keys_of key (all_of entries)) ≡ length entries.rows.items
rows_texts key entries = length-map (all_of entries) (key_of key) ∙ rows_all entries

pub lead_within : (key : Key) (all : PrefixTable) {places : List (Option ℕ)} {t : Text} (lead : Lead) → IsLead (keys_of key all) places t lead → lead.number < length all
lead_within key all lead is = let l = is.within in omega (arith, length-map all (key_of key))

-- where the first entry of a text leads
pub lead_read : (texts : List Text) (places : List (Option ℕ)) (leads : List (Option Lead)) (n : ℕ) (lead : Option Lead) → IsLed texts places leads → IsFirst texts n → lead ≡ lead_at leads n
    → MatchOption lead (HasPlace texts places (text_at texts n) → ⊥) (IsLead texts places (text_at texts n))
lead_read texts places leads n lead led first read = subst (λ o. MatchOption o (HasPlace texts places (text_at texts n) → ⊥) (IsLead texts places (text_at texts n))) (sym read) (led.each n first)

-- where the first entry of this text leads
module _ (texts : List Text) (places : List (Option ℕ)) (leads : List (Option Lead)) (t : Text) (n : ℕ) where
  pub led_to : (lead : Lead) → IsLed texts places leads → IsFirstOf texts t n → lead_at leads n ≡ Some lead → IsLead texts places t lead
  led_to lead led first is = subst (λ t. IsLead texts places t lead) first.1 (subst (λ o. MatchOption o (HasPlace texts places (text_at texts n) → ⊥) (IsLead texts places (text_at texts n))) is (led.each n first.0))

  pub led_none : IsLed texts places leads → IsFirstOf texts t n → lead_at leads n ≡ None → HasPlace texts places t → ⊥
  led_none led first is = subst (λ t. HasPlace texts places t → ⊥) first.1 (subst (λ o. MatchOption o (HasPlace texts places (text_at texts n) → ⊥) (IsLead texts places (text_at texts n))) is (led.each n first.0))

fit_itself : (texts : List Text) (t : Text) (n : ℕ) → n < length texts → text_at texts n ≡ t → IsFit texts t n
fit_itself texts t n l is = (l, subst (SameBits (9 * length (text_at texts n)) (text_at texts n)) is (same_bits_refl (9 * length (text_at texts n)) (text_at texts n)))

pub none_fits_absent : (texts : List Text) (t : Text) → ((n : ℕ) → IsFit texts t n → ⊥) → IsAbsent texts t
none_fits_absent texts t none n l is = none n (fit_itself texts t n l is)

pub near_is_not : (texts : List Text) (places : List (Option ℕ)) (t : Text) (near : Near) → AreBytes near.text.now → IsNear texts places t (length t) near → near.text.now ≢ t → IsAbsent texts t
near_is_not texts places t near own is differs n l same =
    let near_bits : SameBits (9 * length t + 1) (text_at texts near.number) t = is.nearest n (9 * length t + 1) l (omega arith) (subst (λ s. SameBits (9 * length t + 1) s t) (sym same) (same_bits_refl (9 * length t + 1) t)) in
    differs (sym (same_text t near.text.now is.bytes own (subst (SameBits (9 * length t + 1) t) (sym is.is) (same_bits_sym near_bits))))

-- ---- the longest entry that fits

-- each entry that fits is shorter than this
abbrev FitsBelow : Text → PrefixTable → ℕ → Type 0
FitsBelow iri table n = AllByRecursion (λ (e : PrefixEntry). fits iri e ≡ true → length e.iri < n) table

fits_below : (iri : Text) (all : PrefixTable) (places : List (Option ℕ)) (k : ℕ)
    → ((p n : ℕ) → place_at places p ≡ Some n → SameBits (9 * length (entry_at all n).iri) (entry_at all n).iri iri → length (entry_at all n).iri < k) → FitsBelow iri (entries_at all places) k
unfolding entries_at
fits_below iri all [] k h = tt
fits_below iri all (None ∷ places) k h = fits_below iri all places k (λ p n. h (suc p) n)
fits_below iri all (Some m ∷ places) k h = (λ fit. h 0 m refl (bits_of_begun (entry_at all m).iri iri fit), fits_below iri all places k (λ p n. h (suc p) n))

-- what fits is the beginning of its length
fit_text : (iri : Text) (e : PrefixEntry) → fits iri e ≡ true → e.iri ≡ take (length e.iri) iri
fit_text iri e h = (bytes_decides e.iri (take (length e.iri) iri)).0 h

-- the first entry of the greatest length at which one fits
fit_below : (iri : Text) (table : PrefixTable) (n : ℕ) (e : PrefixEntry) → FitsBelow iri table n → longest_fit iri table ≡ Some e → length e.iri < n
unfolding longest_fit
fit_below iri [] n e below h = absurd (cc h)
fit_below iri (d ∷ table) n e below h = grind (arith, fit_below iri table n)

first_fit : (iri : Text) (table : PrefixTable) (len : ℕ) (e : PrefixEntry) → len ≤ length iri → find (has_key Iri (take len iri)) table ≡ Some e → FitsBelow iri table (len + 1) → (length e.iri ≡ len) × (longest_fit iri table ≡ Some e)
unfolding longest_fit
first_fit iri [] len e inside found below = absurd (cc found)
first_fit iri (d ∷ table) len e inside found below = grind (arith, bytes_decides, length-take-le, fit_text, fit_below iri table, first_fit iri table len e inside)

no_longest : (iri : Text) (table : PrefixTable) → FitsBelow iri table 0 → longest_fit iri table ≡ None
unfolding longest_fit
no_longest iri [] below = refl
no_longest iri (e ∷ table) below = grind (arith, no_longest iri table)

module _ (iri : Text) (all : PrefixTable) (places : List (Option ℕ)) (within : AreWithin all places) where
  abbrev texts : List Text
  texts = keys_of Iri all

  -- what fits of the entries that have places
  placed_below : (k : ℕ) → ((n : ℕ) → IsFit texts iri n → HasPlace texts places (text_at texts n) → length (text_at texts n) < k) → FitsBelow iri (entries_at all places) k
  placed_below k h = fits_below iri all places k (λ p n at fit.
      let is = entry_key Iri all n in
      subst (λ s. length s < k) (sym is) (h n (omega (arith, within p n at, length-map all (key_of Iri)), subst (λ s. SameBits (9 * length s) s iri) is fit) (record { place = p; number = n; stands = at; is = refl })))

  pub none_longest : ((n : ℕ) → IsFit texts iri n → HasPlace texts places (text_at texts n) → ⊥) → longest_fit iri (entries_at all places) ≡ None
  none_longest none = no_longest iri (entries_at all places) (placed_below 0 (λ n fit has. absurd (none n fit has)))

  module _ (bytes : AreBytes iri) (own_bytes : (n : ℕ) → n < length texts → AreBytes (text_at texts n)) where
    -- an entry that fits, and is as long as any that has a place
    longest : (lead : Lead) → IsLead texts places (text_at texts lead.number) lead → SameBits (9 * length (text_at texts lead.number)) (text_at texts lead.number) iri
        → ((m : ℕ) → IsFit texts iri m → HasPlace texts places (text_at texts m) → length (text_at texts m) ≤ length (text_at texts lead.number)) → longest_fit iri (entries_at all places) ≡ Some (entry_at all lead.number)
    longest lead is fit most =
        let text = text_at texts lead.number in
        let begun : text ≡ take (length text) iri = (bytes_decides text (take (length text) iri)).0 (begins_by_bits text iri (own_bytes lead.number is.within) bytes fit) in
        let inside : length text ≤ length iri = omega (arith, ap length begun, length-take (length text) iri) in
        let found = subst (λ t. find (has_key Iri t) (entries_at all places) ≡ Some (entry_at all lead.number)) begun (first_placed Iri all places text lead is) in
        (first_fit iri (entries_at all places) (length text) (entry_at all lead.number) inside found (placed_below (length text + 1) (λ m f has. (let l = most m f has in omega arith)))).1

    module _ (near : Near) (common : ℕ) (is : IsNear texts places iri (length iri) near) (common_is : common ≡ common_prefix_len nat_eq near.text.now iri) where
      abbrev own : Text
      own = text_at texts near.number

      own_common : common ≡ common_prefix_len nat_eq own iri
      own_common = common_is ∙ ap (λ s. common_prefix_len nat_eq s iri) is.is

      short : common ≤ length own
      short = omega (arith, own_common, (common_prefix_len-le nat_eq own iri).0)

      inside : common ≤ length iri
      inside = omega (arith, own_common, (common_prefix_len-le nat_eq own iri).1)

      -- what fits is a part of what is in common
      fit_common : (m : ℕ) → IsFit texts iri m → length (text_at texts m) ≤ common
      fit_common m (l, fit) =
          let size = as_long (length (text_at texts m)) (text_at texts m) iri (omega arith) fit in
          let near_fit = is.nearest m (9 * length (text_at texts m)) l (omega arith) fit in
          let long = as_long (length (text_at texts m)) (text_at texts m) own (omega arith) (same_bits_trans fit (same_bits_sym near_fit)) in
          omega (arith, own_common, common_upto (length (text_at texts m)) own iri (own_bytes near.number is.first.within) bytes long near_fit)

      fit_short : (m : ℕ) → IsFit texts iri m → length (text_at texts m) ≤ length iri
      fit_short m fit = let l = fit_common m fit in omega (arith, inside)

      pub near_longest : (lead : Lead) → IsLead texts places own lead → common ≡ length near.text.now → longest_fit iri (entries_at all places) ≡ Some (entry_at all lead.number)
      near_longest lead led whole =
          let size : common ≡ length own = whole ∙ ap length is.is in
          let of_own : IsLead texts places (text_at texts lead.number) lead × SameBits (9 * length (text_at texts lead.number)) (text_at texts lead.number) iri × (length (text_at texts lead.number) ≡ length own) =
          subst (λ t. IsLead texts places t lead × SameBits (9 * length t) t iri × (length t ≡ length own)) (sym led.is)
          (led, subst (λ n. SameBits (9 * n) own iri) size (common_bits own iri common own_common), refl) in
          longest lead of_own.0 of_own.1 (λ m fit has. (let l = fit_common m fit in omega (arith, of_own.2)))

      -- no entry that has a place and fits is as long as the nearest
      abbrev pub IsApart : Type 0
      IsApart = (m : ℕ) → IsFit texts iri m → HasPlace texts places (text_at texts m) → length (text_at texts m) ≡ length own → ⊥

      pub part_apart : common ≢ length near.text.now → IsApart
      part_apart part m fit has alike = let l = fit_common m fit in let size = ap length is.is in part (omega (arith, short))

      pub dead_apart : (HasPlace texts places own → ⊥) → IsApart
      dead_apart dead m (l, fit) has alike =
          let near_fit = is.nearest m (9 * length (text_at texts m)) l (let upto = fit_short m (l, fit) in omega arith) fit in
          let both = ends_there (length own) (text_at texts m) own alike refl (subst (λ n. SameBits (9 * n) (text_at texts m) own) alike (same_bits_trans fit (same_bits_sym near_fit))) in
          dead (subst (HasPlace texts places) (same_text (text_at texts m) own (own_bytes m l) (own_bytes near.number is.first.within) (subst (λ n. SameBits (9 * n + 1) (text_at texts m) own) (sym alike) both)) has)

      -- where the nearest leads, if its whole text is in common
      module _ (leads : List (Option Lead)) (whole : Option Lead) (led : IsLed texts places leads) (if_whole : common ≡ length near.text.now → whole ≡ lead_at leads near.number) (if_part : common ≢ length near.text.now → whole ≡ None) where
        pub whole_led : (lead : Lead) → whole ≡ Some lead → IsLead texts places own lead × (common ≡ length near.text.now)
        whole_led lead some = elim (cases_eq common (length near.text.now)) [
          | inl size ↦ (led_to texts places leads own near.number lead led (is.first, refl) (sym (if_whole size) ∙ some), size)
          | inr part ↦ absurd (cc (if_part part, some))
        ]

        pub whole_apart : whole ≡ None → IsApart
        whole_apart none = elim (cases_eq common (length near.text.now)) [
          | inl size ↦ dead_apart (led_none texts places leads own near.number led (is.first, refl) (sym (if_whole size) ∙ none))
          | inr part ↦ part_apart part
        ]

      pub nothing_ended : IsApart → near.ended ≡ None → longest_fit iri (entries_at all places) ≡ None
      nothing_ended apart none = none_longest (λ m fit has. apart m fit has ((subst (IsEnded texts places iri (length iri) near.number) none is.ended) m fit has (fit_short m fit)))

      module _ (e : Lead) (some : near.ended ≡ Some e) where
        ends : IsEnded texts places iri (length iri) near.number (Some e)
        ends = subst (IsEnded texts places iri (length iri) near.number) some is.ended

        pub ended_within : e.number < length all
        ended_within = omega (arith, ends.0.within, length-map all (key_of Iri))

        pub ended_longest : IsApart → length (text_at texts e.number) ≤ common → longest_fit iri (entries_at all places) ≡ Some (entry_at all e.number)
        ended_longest apart upto = longest e ends.0
            (same_bits_trans ends.2 (same_bits_less (9 * length (text_at texts e.number)) (omega arith) (common_bits own iri common own_common)))
            (λ m fit has. ⊎_elim (λ same. absurd (apart m fit has same)) (λ l. l) (ends.3 m fit has (fit_short m fit)))

        -- where a second search ends
        module _ (far : common < length (text_at texts e.number)) (last : Near) (at_last : IsNear texts places iri common last) where
          less : common < length own
          less = let long = as_long (length (text_at texts e.number)) (text_at texts e.number) own (omega arith) ends.2 in let f = far in omega arith

          abbrev end : Text
          end = text_at texts last.number

          end_common : SameBits (9 * common) end iri
          end_common = at_last.nearest near.number (9 * common) is.first.within (omega arith) (common_bits own iri common own_common)

          end_long : common ≤ length end
          end_long = as_long common iri end inside (same_bits_sym end_common)

          -- what fits is not as long as the text there
          not_last : (m : ℕ) → IsFit texts iri m → length (text_at texts m) ≡ length end → ⊥
          not_last m (l, fit) same = elim (cases_lt common (length iri)) [
            | inl goes ↦
                let next = at_last.nearest near.number (9 * common + 1) is.first.within (omega arith) (goes_there common own iri less goes (common_bits own iri common own_common)) in
                let longer = goes_within common (same_bits_sym next) (omega arith) goes in
                let upto = fit_common m (l, fit) in
                omega arith
            | inr ended ↦
                let upto = fit_common m (l, fit) in
                let long = end_long in
                let size : length iri ≡ length (text_at texts m) = (let i = inside in omega arith) in
                let next = is.nearest m (9 * length (text_at texts m) + 1) l (omega arith) (ends_there (length (text_at texts m)) (text_at texts m) iri refl size fit) in
                let shorter = no_longer iri (same_bits_sym next) (omega arith) in
                omega (arith, less, inside)
          ]

          pub last_none : last.ended ≡ None → longest_fit iri (entries_at all places) ≡ None
          last_none none = none_longest (λ m fit has. not_last m fit ((subst (IsEnded texts places iri common last.number) none at_last.ended) m fit has (fit_common m fit)))

          module _ (f : Lead) (some_last : last.ended ≡ Some f) where
            last_ends : IsEnded texts places iri common last.number (Some f)
            last_ends = subst (IsEnded texts places iri common last.number) some_last at_last.ended

            pub last_within : f.number < length all
            last_within = omega (arith, last_ends.0.within, length-map all (key_of Iri))

            pub last_longest : longest_fit iri (entries_at all places) ≡ Some (entry_at all f.number)
            last_longest = let upto = last_ends.1 in longest f last_ends.0 (same_bits_trans last_ends.2 (same_bits_less (9 * length (text_at texts f.number)) (omega arith) end_common))
                (λ m fit has. ⊎_elim (λ same. absurd (not_last m fit same)) (λ l. l) (last_ends.3 m fit has (fit_common m fit)))

-- ---- where nothing can fit

pub too_short : (texts : List Text) (tree : Tree) (t : Text) → IsTree texts tree → length t < tree.least → (n : ℕ) → IsFit texts t n → ⊥
too_short texts tree t h short n (l, fit) = let least = h.least n l in let size = as_long (length (text_at texts n)) (text_at texts n) t (omega arith) fit in absurd (omega arith)

-- an entry that fits has the last byte that all have in common
module _ (texts : List Text) (tree : Tree) (t : Text) (h : IsTree texts tree) (bytes : AreBytes t) (n : ℕ) (fit : IsFit texts t n) (some : 0 < tree.front) where
  pub front_fits : (tree.front ≤ length t) × (get_or t (tree.front - 1) 0 ≡ tree.last)
  front_fits = by tree.root refl h.front
    where
      by : (o : Option Child) → tree.root ≡ o → IsFront texts tree.nodes.items tree.front tree.last o → (tree.front ≤ length t) × (get_or t (tree.front - 1) 0 ≡ tree.last)
      by None root none = absurd (omega arith)
      by (Some (Leaf m)) root none = absurd (omega arith)
      by (Some (Inner k)) root (at, last) =
          let link = root_link texts tree (Inner k) h root in
          let node = h.node k link.stands in
          let own = text_at texts (node_at tree.nodes.items k).entry in
          let within = node.within in
          let inside : tree.front ≤ length own = omega arith in
          let begun : SameBits (9 * tree.front) own (text_at texts n) = same_bits_less (9 * tree.front) (omega arith) (link.whole (Leaf n) fit.0 tt).same in
          let size = as_long tree.front own (text_at texts n) inside begun in
          let same : SameBits (9 * tree.front) own t = same_bits_trans begun (same_bits_less (9 * tree.front) (omega arith) fit.1) in
          let long = as_long tree.front own t inside same in
          (long, sym (same_byte own t (tree.front - 1) (h.bytes (node_at tree.nodes.items k).entry node.first.within) bytes (same_bits_less (9 * (tree.front - 1) + 9) (omega arith) same) (omega arith) (omega arith)) ∙ sym (last some))

-- A prefix table gets one more entry, or changes at one place.
use Rattle.std.proofs.Common.{arith, ◌≡◌, ◌≢◌, ℕ, ◌+◌, ◌<◌, inl, inr, Bool, true, false, not, ◌&&◌, ◌||◌, List, [], ◌∷◌, ◌++◌, length, refl, sym, ap, subst, ◌∙◌, ◌==◌, bytes_eq, Option, Some, None, IfSome, MatchOption, true≢false}
use Rattle.std.proofs.lemmas.Bool.{cases_eq, cases_lt, cases_order, eq-eqb, ne_eqb, false_from_ne_true}
use Rattle.std.proofs.lemmas.List.{get_or_append_left, get_or_push, get_or_past, get_or-set_same, get_or-set_other, length_push, length-map, map-append}
use Rattle.std.proofs.Math.ListN.{set, length-set}
use Rattle.std.specs.Cmp.Lexicographic.{bytes_decides}
use Rattle.iref_grammar.specs.Rules.{Text}
use Rattle.iref.specs.PrefixTable.{PrefixEntry, PrefixTable}
use Rattle.iref.specs.PrefixTree.{key_of, keys_of, text_at, place_at, lead_at, HasPlace, IsFirst, IsLead, IsLed, IsTree}
use Rattle.iref.specs.PrefixPlaces.{first_of, holds, is_at, lead_there, lead_to, stands_there, ArePlaces, AreWithin, IsBook, IsOnce, IsShared}
use Rattle.iref.specs.{declared.compact.entry.Key.{Key}, declared.compact.entry.Key.TheVariants.{Label, Iri}}
use Rattle.iref.specs.{declared.compact.entry.Lead.{Lead}, declared.compact.shared.Shared.{Shared}}
use Rattle.iref.specs.declared.compact.tree.Tree.{Tree}
use Rattle.iref.proofs.{PrefixNewTextLemmas.{text_old}, PrefixPlaceLemmas.{entries_of_more, entries_spared}}
use Rattle.iref.proofs.PrefixSharedLemmas.{true_lt}

-- where the first entry of a text leads to
abbrev pub LedAt : List Text → List (Option ℕ) → Text → Option Lead → Type 0
LedAt texts places t lead = MatchOption lead (HasPlace texts places t → ⊥) (IsLead texts places t)

-- two first numbers of a text are one
pub first_only : (texts : List Text) (m n : ℕ) → IsFirst texts m → IsFirst texts n → text_at texts m ≡ text_at texts n → m ≡ n
first_only texts m n f g same = elim (cases_order m n) [
  | inl is ↦ is
  | inr (inl less) ↦ absurd (g.new m less same)
  | inr (inr more) ↦ absurd (f.new n more (sym same))
]

-- an entry of this text stands at a place, or none
stands_here : (texts : List Text) (u : Text) (o : Option ℕ) (n : ℕ) → o ≡ Some n → text_at texts n ≡ u → stands_there texts u o ≡ true
stands_here texts u o n is same = ap (stands_there texts u) is ∙ (bytes_decides (text_at texts n) u).1 same

pub none_stands : (texts : List Text) (u : Text) (o : Option ℕ) → ((n : ℕ) → o ≡ Some n → text_at texts n ≢ u) → stands_there texts u o ≡ false
none_stands texts u None ne = refl
none_stands texts u (Some n) ne = false_from_ne_true (bytes_eq (text_at texts n) u) (λ same. ne n refl ((bytes_decides (text_at texts n) u).0 same))

-- the places are those of which another test holds
pub places_same : (shared : Shared) (m : ℕ) (first : Option ℕ) (h h' : ℕ → Bool) → ((p : ℕ) → h' p ≡ h p) → ArePlaces shared m first h → ArePlaces shared m first h'
places_same shared m first h h' same are = record { each = λ p. same p ∙ are.each p; behind = are.behind }

-- the set holds the same for this number
pub places_kept : (shared shared' : Shared) (m : ℕ) (first : Option ℕ) (h : ℕ → Bool) → ((p : ℕ) → holds shared' m p ≡ holds shared m p) → ArePlaces shared m first h → ArePlaces shared' m first h
places_kept shared shared' m first h same are = record { each = λ p. are.each p ∙ ap (λ b. is_at first p || b) (sym (same p)); behind = λ p held. are.behind p (sym (same p) ∙ held) }

-- ---- one more entry, which has no place

module _ (texts : List Text) (t : Text) (places : List (Option ℕ)) (within : (p n : ℕ) → place_at places p ≡ Some n → n < length texts) where
  abbrev more : List Text
  more = texts ++ t ∷ []

  first_of_more : (n : ℕ) → n < length texts → IsFirst more n → IsFirst texts n
  first_of_more n l f = record { within = l; new = λ i k same. f.new i k (text_old texts t i (omega arith) ∙ same ∙ sym (text_old texts t n l)) }

  -- the last text, if it is new, has no place
  last_new : IsFirst more (length texts) → (p n : ℕ) → place_at places p ≡ Some n → text_at more n ≢ text_at more (length texts)
  last_new f p n at = f.new n (within p n at)

  has_more : (u : Text) → HasPlace more places u → HasPlace texts places u
  has_more u has = record { place = has.place; number = has.number; stands = has.stands; is = sym (text_old texts t has.number (within has.place has.number has.stands)) ∙ has.is }

  led_old : (u : Text) (lead : Option Lead) → LedAt texts places u lead → LedAt more places u lead
  led_old u None dead = λ has. dead (has_more u has)
  led_old u (Some lead) led = record {
    stands = led.stands;
    within = let l = led.within in omega (arith, length_push texts t);
    is = text_old texts t lead.number led.within ∙ led.is;
    first = λ p n l at same. led.first p n l at (sym (text_old texts t n (within p n at)) ∙ same);
  }

  led_more : (leads : List (Option Lead)) → IsLed texts places leads → IsLed more places (leads ++ None ∷ [])
  led_more leads led = record {
    long = omega (arith, length_push texts t, length_push leads None, led.long);
    each = λ n f. elim (cases_order n (length texts)) [
      | inl at ↦
          subst (LedAt more places (text_at more n)) (sym (get_or_push leads None None n (omega (arith, led.long))))
          (λ has. last_new (subst (IsFirst more) at f) has.place has.number has.stands (has.is ∙ ap (text_at more) at))
      | inr (inl less) ↦
          subst (LedAt more places (text_at more n)) (sym (get_or_append_left leads (None ∷ []) None n (omega (arith, led.long))))
          (subst (λ u. LedAt more places u (lead_at leads n)) (sym (text_old texts t n less)) (led_old (text_at texts n) (lead_at leads n) (led.each n (first_of_more n less f))))
      | inr (inr above) ↦ absurd (let l = f.within in omega (arith, length_push texts t))
    ];
  }

  once_more : IsOnce texts places → IsOnce more places
  once_more once p q m n at_p at_q same = once p q m n at_p at_q (sym (text_old texts t m (within p m at_p)) ∙ same ∙ text_old texts t n (within q n at_q))

  stands_old : (u : Text) (o : Option ℕ) → ((n : ℕ) → o ≡ Some n → n < length texts) → stands_there more u o ≡ stands_there texts u o
  stands_old u None l = refl
  stands_old u (Some n) l = ap (λ s. bytes_eq s u) (text_old texts t n (l n refl))

  shared_more : (leads : List (Option Lead)) (shared : Shared) → length leads ≡ length texts → IsShared texts places leads shared → IsShared more places (leads ++ None ∷ []) shared
  shared_more leads shared long is = record {
    first = λ m f. elim (cases_order m (length texts)) [
      | inl at ↦
          subst (λ o. ArePlaces shared m (first_of o) (λ p. stands_there more (text_at more m) (place_at places p))) (sym (get_or_push leads None None m (omega arith))) (record {
            each = λ p. none_stands more (text_at more m) (place_at places p) (λ n stands same. last_new (subst (IsFirst more) at f) p n stands (same ∙ ap (text_at more) at)) ∙ sym (is.past m p (omega arith));
            behind = λ p held. sym (is.past m p (omega arith)) ∙ held;
          })
      | inr (inl less) ↦
          subst (λ o. ArePlaces shared m (first_of o) (λ p. stands_there more (text_at more m) (place_at places p))) (sym (get_or_append_left leads (None ∷ []) None m (omega arith)))
          (places_same shared m (first_of (lead_at leads m)) _ _ (λ p. ap (λ u. stands_there more u (place_at places p)) (text_old texts t m less) ∙ stands_old (text_at texts m) (place_at places p) (λ n stands. within p n stands)) (is.first m (first_of_more m less f)))
      | inr (inr above) ↦ absurd (let l = f.within in omega (arith, length_push texts t))
    ];
    past = λ m p l. is.past m p (omega (arith, length_push texts t));
  }

pub keys_more : (key : Key) (all : PrefixTable) (e : PrefixEntry) → keys_of key (all ++ e ∷ []) ≡ keys_of key all ++ key_of key e ∷ []
keys_more key all e = map-append (key_of key) all (e ∷ [])

-- one more place, where none stands
module _ (places : List (Option ℕ)) where
  abbrev spared : List (Option ℕ)
  spared = places ++ None ∷ []

  pub spare_place : (p : ℕ) → place_at spared p ≡ place_at places p
  spare_place p = elim (cases_order p (length places)) [
    | inl is ↦ get_or_push places None None p (sym is) ∙ sym (get_or_past places p None (omega arith))
    | inr (inl less) ↦ get_or_append_left places (None ∷ []) None p less
    | inr (inr above) ↦ get_or_past spared p None (omega (arith, length_push places None)) ∙ sym (get_or_past places p None (omega arith))
  ]

  spare_led : (texts : List Text) (t : Text) (lead : Option Lead) → LedAt texts places t lead → LedAt texts spared t lead
  spare_led texts t None dead = λ has. dead (record { place = has.place; number = has.number; stands = sym (spare_place has.place) ∙ has.stands; is = has.is })
  spare_led texts t (Some lead) led = record { stands = spare_place lead.place ∙ led.stands; within = led.within; is = led.is; first = λ p n l at. led.first p n l (sym (spare_place p) ∙ at) }

  book_spared : (all : PrefixTable) (labels iris : List (Option Lead)) (len : ℕ) (by_label by_iri : Tree) (pairs : Shared) → IsBook all places labels iris len by_label by_iri pairs → IsBook all spared labels iris len by_label by_iri pairs
  book_spared all labels iris len by_label by_iri pairs book = record {
    within = λ p n at. book.within p n (sym (spare_place p) ∙ at);
    once = λ p q m n at_p at_q. book.once p q m n (sym (spare_place p) ∙ at_p) (sym (spare_place q) ∙ at_q);
    counted = book.counted ∙ ap length (sym (entries_spared all places));
    labels = book.labels;
    labels_led = record { long = book.labels_led.long; each = λ n f. spare_led (keys_of Label all) (text_at (keys_of Label all) n) (lead_at labels n) (book.labels_led.each n f) };
    iris = book.iris;
    iris_led = record { long = book.iris_led.long; each = λ n f. spare_led (keys_of Iri all) (text_at (keys_of Iri all) n) (lead_at iris n) (book.iris_led.each n f) };
    shared = record {
      first = λ m f. places_same pairs m (first_of (lead_at iris m)) _ _ (λ p. ap (stands_there (keys_of Iri all) (text_at (keys_of Iri all) m)) (spare_place p)) (book.shared.first m f);
      past = book.shared.past;
    };
  }

pub book_more : (all : PrefixTable) (e : PrefixEntry) (places : List (Option ℕ)) (labels iris : List (Option Lead)) (len : ℕ) (by_label by_iri by_label' by_iri' : Tree) (pairs : Shared) → IsBook all places labels iris len by_label by_iri pairs
    → IsTree (keys_of Label all ++ e.label ∷ []) by_label' → IsTree (keys_of Iri all ++ e.iri ∷ []) by_iri' → IsBook (all ++ e ∷ []) (places ++ None ∷ []) (labels ++ None ∷ []) (iris ++ None ∷ []) len by_label' by_iri' pairs
book_more all e places labels iris len by_label by_iri by_label' by_iri' pairs book tree_label tree_iri =
    let upto : (key : Key) (p n : ℕ) → place_at places p ≡ Some n → n < length (keys_of key all) = λ key p n at. omega (arith, book.within p n at, length-map all (key_of key)) in
    book_spared places (all ++ e ∷ []) (labels ++ None ∷ []) (iris ++ None ∷ []) len by_label' by_iri' pairs (record {
      within = λ p n at. omega (arith, book.within p n at, length_push all e);
      once = subst (λ texts. IsOnce texts places) (sym (keys_more Label all e)) (once_more (keys_of Label all) e.label places (upto Label) book.once);
      counted = book.counted ∙ ap length (sym (entries_of_more all e places book.within));
      labels = subst (λ texts. IsTree texts by_label') (sym (keys_more Label all e)) tree_label;
      labels_led = subst (λ texts. IsLed texts places (labels ++ None ∷ [])) (sym (keys_more Label all e)) (led_more (keys_of Label all) e.label places (upto Label) labels book.labels_led);
      iris = subst (λ texts. IsTree texts by_iri') (sym (keys_more Iri all e)) tree_iri;
      iris_led = subst (λ texts. IsLed texts places (iris ++ None ∷ [])) (sym (keys_more Iri all e)) (led_more (keys_of Iri all) e.iri places (upto Iri) iris book.iris_led);
      shared = subst (λ texts. IsShared texts places (iris ++ None ∷ []) pairs) (sym (keys_more Iri all e)) (shared_more (keys_of Iri all) e.iri places (upto Iri) iris pairs book.iris_led.long book.shared);
    })

-- ---- where the places of an IRI begin

-- where an IRI leads, and its places
abbrev pub Placed : List Text → List (Option ℕ) → Shared → ℕ → Option Lead → Type 0
Placed texts places shared n o = LedAt texts places (text_at texts n) o × ArePlaces shared n (first_of o) (λ q. stands_there texts (text_at texts n) (place_at places q))

module _ (texts : List Text) (places : List (Option ℕ)) (within : (p n : ℕ) → place_at places p ≡ Some n → n < length texts) (shared : Shared) (m : ℕ) where
  stands_true : (u : Text) (o : Option ℕ) → stands_there texts u o ≡ true → IfSome o (λ n. text_at texts n ≡ u) × (o ≢ None)
  stands_true u None h = absurd (true≢false (sym h))
  stands_true u (Some n) h = ((bytes_decides (text_at texts n) u).0 h, λ e. cc e)

  module _ (first : Option ℕ) (are : ArePlaces shared m first (λ q. stands_there texts (text_at texts m) (place_at places q))) where
    first_inside : IfSome first (λ p. p < length places)
    first_inside = by first refl are
      where
        by : (o : Option ℕ) → first ≡ o → ArePlaces shared m o (λ q. stands_there texts (text_at texts m) (place_at places q)) → IfSome o (λ p. p < length places)
        by None is are = tt
        by (Some p) is are = elim (cases_lt p (length places)) [
          | inl less ↦ less
          | inr past ↦ absurd ((stands_true (text_at texts m) (place_at places p) (are.each p ∙ ap (λ b. b || holds shared m p) (eq-eqb p p refl))).1 (get_or_past places p None past))
        ]

  pub placed_by : (first : Option ℕ) → ArePlaces shared m first (λ q. stands_there texts (text_at texts m) (place_at places q)) → Placed texts places shared m (lead_to places first)
  placed_by None are = (λ has. true≢false (sym (are.behind has.place (sym (are.each has.place) ∙ stands_here texts (text_at texts m) (place_at places has.place) has.number has.stands has.is))), are)
  placed_by (Some p) are = by (place_at places p) refl
    where
      there : stands_there texts (text_at texts m) (place_at places p) ≡ true
      there = are.each p ∙ ap (λ b. b || holds shared m p) (eq-eqb p p refl)

      by : (o : Option ℕ) → place_at places p ≡ o → Placed texts places shared m (lead_there p o)
      by None at = absurd ((stands_true (text_at texts m) (place_at places p) there).1 at)
      by (Some n) at = (
        record {
          stands = at;
          within = within p n at;
          is = (stands_true (text_at texts m) (Some n) (sym (ap (stands_there texts (text_at texts m)) at) ∙ there)).0;
          first = λ q k less stands same.
              let held : holds shared m q ≡ true = ap (λ b. b || holds shared m q) (sym (ne_eqb q p (λ is. omega arith))) ∙ sym (are.each q) ∙ stands_here texts (text_at texts m) (place_at places q) k stands same in
              let behind = true_lt p q (are.behind q held) in
              absurd (omega arith);
        },
        are,
      )

-- ---- one place changes

-- at this place stands the entry of this number, or none; at others as before
pub record IsChanged (places after : List (Option ℕ)) (p : ℕ) (x : Option ℕ) : Type 0 where
  pub there : place_at after p ≡ x
  pub others : (q : ℕ) → q ≢ p → place_at after q ≡ place_at places q

pub changed_set : (places : List (Option ℕ)) (p : ℕ) (x : Option ℕ) → p < length places → IsChanged places (set places p x) p x
changed_set places p x l = record { there = get_or-set_same places p x None l; others = λ q ne. get_or-set_other places p q x None ne }

-- what is so of the lead that is set and of the others
pub by_set : (P : ℕ → Option Lead → Type 0) (leads : List (Option Lead)) (m : ℕ) (lead : Option Lead) → m < length leads → P m lead → ((n : ℕ) → n ≢ m → P n (lead_at leads n)) → (n : ℕ) → P n (lead_at (set leads m lead) n)
by_set P leads m lead l here others n = elim (cases_eq n m) [
  | inl is ↦ subst (λ k. P k (lead_at (set leads m lead) k)) (sym is) (subst (P m) (sym (get_or-set_same leads m lead None l)) here)
  | inr other ↦ subst (P n) (sym (get_or-set_other leads m n lead None other)) (others n other)
]

module _ (places after : List (Option ℕ)) (p : ℕ) (x : Option ℕ) (changed : IsChanged places after p x) where
  at_there : {q n : ℕ} → q ≡ p → place_at after q ≡ Some n → x ≡ Some n
  at_there is at = sym changed.there ∙ ap (place_at after) (sym is) ∙ at

  at_other : {q n : ℕ} → q ≢ p → place_at after q ≡ Some n → place_at places q ≡ Some n
  at_other {q} other at = sym (changed.others q other) ∙ at

  pub within_after : (all : PrefixTable) → AreWithin all places → ((k : ℕ) → x ≡ Some k → k < length all) → AreWithin all after
  within_after all within new q n at = elim (cases_eq q p) [ inl is ↦ new n (at_there is at) | inr other ↦ within q n (at_other other at) ]

  -- no other place has a text that is new at this one
  pub once_after : (labels : List Text) → IsOnce labels places → ((k : ℕ) → x ≡ Some k → (q n : ℕ) → q ≢ p → place_at places q ≡ Some n → text_at labels n ≢ text_at labels k) → IsOnce labels after
  once_after labels once lone a b m n at_a at_b same = elim (cases_eq a p) [
    | inl a_is ↦ elim (cases_eq b p) [
      | inl b_is ↦ a_is ∙ sym b_is
      | inr b_other ↦ absurd (lone m (at_there a_is at_a) b n b_other (at_other b_other at_b) (sym same))
    ]
    | inr a_other ↦ elim (cases_eq b p) [
      | inl b_is ↦ absurd (lone n (at_there b_is at_b) a m a_other (at_other a_other at_a) same)
      | inr b_other ↦ once a b m n (at_other a_other at_a) (at_other b_other at_b) same
    ]
  ]

  module _ (texts : List Text) where
    -- the text is not that of an entry that stood or stands there
    led_moved : (t : Text) → ((n : ℕ) → place_at places p ≡ Some n → text_at texts n ≢ t) → ((k : ℕ) → x ≡ Some k → text_at texts k ≢ t) → (lead : Option Lead) → LedAt texts places t lead → LedAt texts after t lead
    led_moved t was new None dead = λ has. elim (cases_eq has.place p) [
      | inl is ↦ new has.number (at_there is has.stands) has.is
      | inr other ↦ dead (record { place = has.place; number = has.number; stands = at_other other has.stands; is = has.is })
    ]
    led_moved t was new (Some lead) led = record {
      stands = changed.others lead.place (λ is. was lead.number (ap (place_at places) (sym is) ∙ led.stands) led.is) ∙ led.stands;
      within = led.within;
      is = led.is;
      first = λ q n l at same. elim (cases_eq q p) [ inl is ↦ new n (at_there is at) same | inr other ↦ led.first q n l (at_other other at) same ];
    }

    -- what stood and stands there has one text
    pub led_after : (leads : List (Option Lead)) (m : ℕ) (lead : Option Lead) → IsLed texts places leads → IsFirst texts m → ((n : ℕ) → place_at places p ≡ Some n → text_at texts n ≡ text_at texts m)
        → ((k : ℕ) → x ≡ Some k → text_at texts k ≡ text_at texts m) → LedAt texts after (text_at texts m) lead → IsLed texts after (set leads m lead)
    led_after leads m lead led f was new at = record {
      long = length-set leads m lead ∙ led.long;
      each = by_set (λ n o. IsFirst texts n → LedAt texts after (text_at texts n) o) leads m lead (let l = f.within in omega (arith, led.long)) (λ _. at)
          (λ n other g. led_moved (text_at texts n) (λ k stands same. other (first_only texts n m g f (sym same ∙ was k stands))) (λ k is same. other (first_only texts n m g f (sym same ∙ new k is))) (lead_at leads n) (led.each n g));
    }

    -- no other place has the text
    pub lone_lead : (k : ℕ) (t : Text) → x ≡ Some k → k < length texts → text_at texts k ≡ t → ((q n : ℕ) → q ≢ p → place_at places q ≡ Some n → text_at texts n ≢ t) → LedAt texts after t (Some (record { place = p; number = k }))
    lone_lead k t is l same lone = record { stands = changed.there ∙ is; within = l; is = same; first = λ q n less at. lone q n (λ at_p. omega arith) (at_other (λ at_p. omega arith) at) }

    pub lead_gone : (t : Text) → x ≡ None → ((q n : ℕ) → q ≢ p → place_at places q ≡ Some n → text_at texts n ≢ t) → LedAt texts after t None
    lead_gone t none lone has = elim (cases_eq has.place p) [
      | inl is ↦ cc (at_there is has.stands, none)
      | inr other ↦ lone has.place has.number other (at_other other has.stands) has.is
    ]

    -- which places have this text
    put_there : (t : Text) (k : ℕ) → x ≡ Some k → text_at texts k ≡ t → (q : ℕ) → stands_there texts t (place_at after q) ≡ (q == p || stands_there texts t (place_at places q))
    put_there t k is same q = elim (cases_eq q p) [
      | inl at ↦ stands_here texts t (place_at after q) k (ap (place_at after) at ∙ changed.there ∙ is) same ∙ ap (λ b. b || stands_there texts t (place_at places q)) (sym (eq-eqb q p at))
      | inr other ↦ ap (stands_there texts t) (changed.others q other) ∙ ap (λ b. b || stands_there texts t (place_at places q)) (sym (ne_eqb q p other))
    ]

    taken_there : (t : Text) → ((k : ℕ) → x ≡ Some k → text_at texts k ≢ t) → (q : ℕ) → stands_there texts t (place_at after q) ≡ (not (q == p) && stands_there texts t (place_at places q))
    taken_there t none q = elim (cases_eq q p) [
      | inl at ↦ ap (stands_there texts t) (ap (place_at after) at ∙ changed.there) ∙ none_stands texts t x none ∙ ap (λ b. not b && stands_there texts t (place_at places q)) (sym (eq-eqb q p at))
      | inr other ↦ ap (stands_there texts t) (changed.others q other) ∙ ap (λ b. not b && stands_there texts t (place_at places q)) (sym (ne_eqb q p other))
    ]

    same_there : (t : Text) → ((n : ℕ) → place_at places p ≡ Some n → text_at texts n ≢ t) → ((k : ℕ) → x ≡ Some k → text_at texts k ≢ t) → (q : ℕ) → stands_there texts t (place_at after q) ≡ stands_there texts t (place_at places q)
    same_there t was new q = elim (cases_eq q p) [
      | inl at ↦ ap (stands_there texts t) (ap (place_at after) at ∙ changed.there) ∙ none_stands texts t x new ∙ sym (ap (stands_there texts t) (ap (place_at places) at) ∙ none_stands texts t (place_at places p) was)
      | inr other ↦ ap (stands_there texts t) (changed.others q other)
    ]

    module _ (within : (q n : ℕ) → place_at after q ≡ Some n → n < length texts) (shared : Shared) (n : ℕ) (first : Option ℕ) where
      -- the entry of the text stands there now
      pub placed_put : (k : ℕ) → x ≡ Some k → text_at texts k ≡ text_at texts n → ArePlaces shared n first (λ q. q == p || stands_there texts (text_at texts n) (place_at places q)) → Placed texts after shared n (lead_to after first)
      placed_put k is same are = placed_by texts after within shared n first (places_same shared n first _ _ (put_there (text_at texts n) k is same) are)

      pub inside_put : (k : ℕ) → x ≡ Some k → text_at texts k ≡ text_at texts n → ArePlaces shared n first (λ q. q == p || stands_there texts (text_at texts n) (place_at places q)) → IfSome first (λ q. q < length after)
      inside_put k is same are = first_inside texts after within shared n first (places_same shared n first _ _ (put_there (text_at texts n) k is same) are)

      -- no entry of the text stands there any more
      pub placed_taken : ((k : ℕ) → x ≡ Some k → text_at texts k ≢ text_at texts n) → ArePlaces shared n first (λ q. not (q == p) && stands_there texts (text_at texts n) (place_at places q)) → Placed texts after shared n (lead_to after first)
      placed_taken none are = placed_by texts after within shared n first (places_same shared n first _ _ (taken_there (text_at texts n) none) are)

      pub inside_taken : ((k : ℕ) → x ≡ Some k → text_at texts k ≢ text_at texts n) → ArePlaces shared n first (λ q. not (q == p) && stands_there texts (text_at texts n) (place_at places q)) → IfSome first (λ q. q < length after)
      inside_taken none are = first_inside texts after within shared n first (places_same shared n first _ _ (taken_there (text_at texts n) none) are)

    -- none stood or stands there
    pub placed_moved : (shared shared' : Shared) (n : ℕ) (o : Option Lead) → ((k : ℕ) → place_at places p ≡ Some k → text_at texts k ≢ text_at texts n) → ((k : ℕ) → x ≡ Some k → text_at texts k ≢ text_at texts n)
        → ((q : ℕ) → holds shared' n q ≡ holds shared n q) → Placed texts places shared n o → Placed texts after shared' n o
    placed_moved shared shared' n o was new same (led, are) =
        (led_moved (text_at texts n) was new o led, places_kept shared shared' n (first_of o) _ same (places_same shared n (first_of o) _ _ (same_there (text_at texts n) was new) are))

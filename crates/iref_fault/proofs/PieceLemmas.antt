-- The computed fault of pieces is that of the first that is outside its rule, and there is one.
use Rattle.std.proofs.Common.{arith, ◌≡◌, ℕ, suc, ◌+◌, ◌<◌, ◌≤◌, true, false, List, [], ◌∷◌, ◌++◌, ◌⊎◌, inl, inr, refl, sym, ◌∙◌, ap, subst, length, take, drop, append_assoc, chars, Option, Some, None, option_map, true≢false}
use Rattle.std.proofs.{Math.Logic.{◌↔◌}, lemmas.Bool.{cases_lt}, lemmas.List.{take_all, take-take, take-append-drop}}
use Rattle.std.proofs.lemmas.Str.{chars-encodes, encodes-chars, scalars-chars}
use Rattle.std.specs.{Option.{option_or}, Str.{IsUtf8}, List.{AllByRecursion}}
use Rattle.iref_grammar.specs.{Characters.{CharTests, AreAboveAscii}, Rules.{Text, Rule, InUtf8}}
use Rattle.iref_fault.specs.Places.{PartRule, rule_of, is_bracketed, Begins, IsFaultPlace, IsPlaceIn, place_in, bytes_before}
use Rattle.iref_fault.specs.{Cut.{Piece}, Faults.{FaultValue, fault_at, fault_of_piece, first_fault}}
use Rattle.iref_fault.specs.FirstFault.{IsInRule, AreInRules, IsFirstFault}
use Rattle.iref_fault.proofs.{CutSliceLemmas.{IsSlice}, PartPlaceLemmas.{HasShape, RuleTells, place_tells}}

-- ---- there is one place

begins_less : (A : Rule) (text : Text) (m n : ℕ) → m ≤ n → Begins A (take n text) → Begins A (take m text)
begins_less A text m n h b =
    let front = take n text in
    let shorter : take m front ≡ take m text = take-take m n text h in
    (drop m front ++ b.0, subst A (ap (λ t. t ++ b.0) (sym (take-append-drop m front)) ∙ append_assoc (take m front) (drop m front) b.0 ∙ ap (λ t. t ++ (drop m front ++ b.0)) shorter) b.1)

no_later : (A : Rule) (text : Text) (m n : ℕ) → IsFaultPlace A text m → IsFaultPlace A text n → m < n → ⊥
no_later A text m n a b h = first a.ends b.ends
  where
    whole : (k : ℕ) → length text ≤ k → take k text ≡ text
    whole k l = take_all k text l

    past : m ≡ length text → (Begins A (take (suc n) text) → ⊥) → ⊥
    past e k =
        let far : length text ≤ n = omega arith in
        let further : length text ≤ suc n = omega arith in
        k (subst (Begins A) (whole n far ∙ sym (whole (suc n) further)) b.begins)

    first : (m ≡ length text) ⊎ (Begins A (take (suc m) text) → ⊥) → (n ≡ length text) ⊎ (Begins A (take (suc n) text) → ⊥) → ⊥
    first (inl e) (inl f) = omega arith
    first (inl e) (inr k) = past e k
    first (inr k) other = k (begins_less A text (suc m) n h b.begins)

pub one_place : (set : CharTests) (rule : PartRule) (text : Text) (m n : ℕ) → IsPlaceIn set rule text m → IsPlaceIn set rule text n → m ≡ n
one_place set rule text m n a b = by a.stands b.stands
  where
    by : ((is_bracketed rule text ≡ true) × (m ≡ 0)) ⊎ ((is_bracketed rule text ≡ false) × IsFaultPlace (rule_of set rule) text m)
        → ((is_bracketed rule text ≡ true) × (n ≡ 0)) ⊎ ((is_bracketed rule text ≡ false) × IsFaultPlace (rule_of set rule) text n) → m ≡ n
    by (inl x) (inl y) = x.1 ∙ sym y.1
    by (inl x) (inr y) = absurd (true≢false (sym x.0 ∙ y.0))
    by (inr x) (inl y) = absurd (true≢false (sym y.0 ∙ x.0))
    by (inr x) (inr y) = elim (cases_lt m n) [
      | inl h ↦ absurd (no_later (rule_of set rule) text m n x.1 y.1 h)
      | inr h ↦ elim (cases_lt n m) [
        | inl k ↦ absurd (no_later (rule_of set rule) text n m y.1 x.1 k)
        | inr k ↦ omega arith
      ]
    ]

-- ---- bytes and characters

pub in_utf8_chars : (A : Rule) (bytes : Text) → IsUtf8 bytes → InUtf8 A bytes ↔ A (chars bytes)
in_utf8_chars A bytes u = (
  λ z. subst A (sym (chars-encodes z.0 z.1) ∙ ap chars z.2) z.3,
  λ a. (chars bytes, scalars-chars bytes u, encodes-chars bytes u, a),
)

-- ---- pieces

module _ (set : CharTests) (above : AreAboveAscii set) (text : Text) where
  -- a piece is a slice of the text, and has the shape of its rule
  pub record IsSound (p : Piece) : Type 0 where
    pub slice : IsSlice text p.start p.text
    pub shape : HasShape p.rule (chars p.text)

  -- what the place that is computed says of the piece
  piece_tells : (p : Piece) → IsSound p → RuleTells set above p.rule (chars p.text) (place_in set p.rule (chars p.text))
  piece_tells p s = place_tells set above p.rule (chars p.text) s.shape

  fault_if : (p : Piece) (o : Option ℕ) → place_in set p.rule (chars p.text) ≡ o → fault_of_piece set text p ≡ option_map (λ place. fault_at text p.rule (p.start + bytes_before place (chars p.text))) o
  unfolding fault_of_piece
  fault_if p o e = ap (λ o. option_map (λ place. fault_at text p.rule (p.start + bytes_before place (chars p.text))) o) e

  -- a piece in its rule has no fault
  no_fault_if : (p : Piece) → IsSound p → IsInRule set p → fault_of_piece set text p ≡ None
  no_fault_if p s r = by (place_in set p.rule (chars p.text)) refl (piece_tells p s)
    where
      by : (o : Option ℕ) → place_in set p.rule (chars p.text) ≡ o → RuleTells set above p.rule (chars p.text) o → fault_of_piece set text p ≡ None
      by None e t = fault_if p None e
      by (Some n) e t = absurd (t.outside ((in_utf8_chars (rule_of set p.rule) p.text s.slice.utf8).0 r))

  -- and one that is wrong at a place has this fault
  fault_if_wrong : (p : Piece) (place : ℕ) → IsSound p → IsPlaceIn set p.rule (chars p.text) place → fault_of_piece set text p ≡ Some (fault_at text p.rule (p.start + bytes_before place (chars p.text)))
  fault_if_wrong p place s w = by (place_in set p.rule (chars p.text)) refl (piece_tells p s)
    where
      by : (o : Option ℕ) → place_in set p.rule (chars p.text) ≡ o → RuleTells set above p.rule (chars p.text) o → fault_of_piece set text p ≡ Some (fault_at text p.rule (p.start + bytes_before place (chars p.text)))
      by None e t = absurd (w.outside t)
      by (Some n) e t = fault_if p (Some n) e ∙ ap (λ k. Some (fault_at text p.rule (p.start + bytes_before k (chars p.text)))) (one_place set p.rule (chars p.text) n place t w)

  -- ---- lists of pieces

  abbrev pub AreSound : List Piece → Type 0
  AreSound ps = AllByRecursion IsSound ps

  abbrev FirstTells : List Piece → Option FaultValue → Type 0
  FirstTells ps None = AreInRules set ps
  FirstTells ps (Some f) = IsFirstFault set text ps f

  one_more : (p : Piece) (ps : List Piece) → IsInRule set p → (o : Option FaultValue) → FirstTells ps o → FirstTells (p ∷ ps) o
  one_more p ps r None t = (r, t)
  one_more p ps r (Some f) t = record {
    front = p ∷ t.front;
    piece = t.piece;
    back = t.back;
    place = t.place;
    divided = ap (λ qs. p ∷ qs) t.divided;
    in_rules = (r, t.in_rules);
    stands = t.stands;
    named = t.named;
  }

  first_tells : (ps : List Piece) → AreSound ps → FirstTells ps (first_fault set text ps)
  first_tells [] s = tt
  first_tells (p ∷ ps) s = by (place_in set p.rule (chars p.text)) refl (piece_tells p s.0) (first_tells ps s.1)
    where
      by : (o : Option ℕ) → place_in set p.rule (chars p.text) ≡ o → RuleTells set above p.rule (chars p.text) o → FirstTells ps (first_fault set text ps) → FirstTells (p ∷ ps) (first_fault set text (p ∷ ps))
      by None e t more =
          subst (FirstTells (p ∷ ps)) (ap (λ o. option_or o (first_fault set text ps)) (sym (fault_if p None e)))
          (one_more p ps ((in_utf8_chars (rule_of set p.rule) p.text s.0.slice.utf8).1 t) (first_fault set text ps) more)
      by (Some n) e t more =
          subst (FirstTells (p ∷ ps)) (ap (λ o. option_or o (first_fault set text ps)) (sym (fault_if p (Some n) e)))
          (record { front = []; piece = p; back = ps; place = n; divided = refl; in_rules = tt; stands = t; named = refl })

  -- so there is one first fault
  first_is : (front : List Piece) (p : Piece) (back : List Piece) (place : ℕ) → AreSound (front ++ p ∷ back) → AreInRules set front → IsPlaceIn set p.rule (chars p.text) place
      → first_fault set text (front ++ p ∷ back) ≡ Some (fault_at text p.rule (p.start + bytes_before place (chars p.text)))
  first_is [] p back place s r w = ap (λ o. option_or o (first_fault set text back)) (fault_if_wrong p place s.0 w)
  first_is (q ∷ qs) p back place s r w = ap (λ o. option_or o (first_fault set text (qs ++ p ∷ back))) (no_fault_if q s.0 r.0) ∙ first_is qs p back place s.1 r.1 w

  pub first_fault_is : (ps : List Piece) → AreSound ps → (f : FaultValue) → (first_fault set text ps ≡ Some f) ↔ IsFirstFault set text ps f
  first_fault_is ps s f = (λ e. subst (FirstTells ps) e (first_tells ps s), back)
    where
      back : IsFirstFault set text ps f → first_fault set text ps ≡ Some f
      back z =
          ap (first_fault set text) (sym z.divided)
          ∙ first_is z.front z.piece z.back z.place (subst AreSound (sym z.divided) s) z.in_rules z.stands
          ∙ ap (λ g. Some g) z.named

  none_if : (ps : List Piece) → AreSound ps → AreInRules set ps → first_fault set text ps ≡ None
  none_if [] s r = refl
  none_if (p ∷ ps) s r = ap (λ o. option_or o (first_fault set text ps)) (no_fault_if p s.0 r.0) ∙ none_if ps s.1 r.1

  pub no_fault_is : (ps : List Piece) → AreSound ps → (first_fault set text ps ≡ None) ↔ AreInRules set ps
  no_fault_is ps s = (λ e. subst (FirstTells ps) e (first_tells ps s), none_if ps s)

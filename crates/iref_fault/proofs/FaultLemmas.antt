-- The computed fault of a whole text: there is none exactly in the grammar, and it is that of the first piece outside its rule.
use Rattle.std.proofs.Common.{arith, ◌≡◌, ℕ, zero, suc, ◌+◌, ◌<◌, ◌≤◌, ⊎_elim, Bool, true, false, List, [], ◌∷◌, ◌++◌, refl, sym, ◌∙◌, ap, subst, length, take, drop, ◌-◌, length-append, length-drop, chars, Some, None, if◌then◌else◌, encode_utf8_all, true≢false}
use Rattle.std.proofs.{Math.Logic.{◌↔◌}, Math.Seq.{take-append_seam, drop-append_seam}, lemmas.Bool.{cases_lt}}
use Rattle.std.proofs.{lemmas.List.{take_all}, lemmas.Option.{same_Some}}
use Rattle.std.proofs.lemmas.Str.{IsUtf8-nil, IsUtf8-from_is_utf8, is_utf8-from_IsUtf8, IsUtf8-take, IsUtf8-drop, utf8_valid_len_le, encodes-chars, length-encode, len_utf8_bounds}
use Rattle.std.specs.Str.{IsUtf8, IsValidUpTo, is_utf8}
use Rattle.std.specs.{Str.Lossy.{utf8_valid_len, valid_len_up_to}, List.{AllByRecursion}, Char.{encode_utf8}}
use Rattle.iref_grammar.specs.Characters.{CharTests, AreAboveAscii, uri_chars, uri_above_ascii}
use Rattle.iref_grammar.specs.{Rules.{Text, Rule, InUtf8}, Grammar.{IsAuthority, IsUri, IsUriReference}}
use Rattle.iref_fault.specs.Places.{PartRule, rule_of, is_bare, IsPlaceIn, bytes_before}
use Rattle.iref_fault.specs.Cut.{Piece, piece, authority_pieces, has_cut_scheme, pieces_of}
use Rattle.iref_fault.specs.Faults.{FaultValue, fault_at, first_char, first_fault, fault_of_pieces, fault_of_part, fault_of_authority, fault_of_reference, fault_of_uri, not_utf8, no_scheme}
use Rattle.iref_fault.specs.FirstFault.{AreInRules, IsFirstFault, IsPartFault}
use Rattle.iref_fault.proofs.{PartPlaceLemmas.{any_shape}, CutSliceLemmas.{IsSlice, whole_slice, slice_boundary}}
use Rattle.iref_fault.proofs.CutReadLemmas.{authority_cut, reference_cut}
use Rattle.iref_fault.proofs.PieceLemmas.{IsSound, AreSound, first_fault_is, no_fault_is}
use Rattle.iref_fault.proofs.CutPieceLemmas.{pieces_sound, authority_sound}
use Rattle.iref_fault.proofs.AuthorityFaultLemmas.{authority_pieces_are}
use Rattle.iref_fault.proofs.ReferenceFaultLemmas.{reference_pieces_are, uri_pieces_are}

-- a text in a rule is UTF-8
ruled_utf8 : (A : Rule) (text : Text) → InUtf8 A text → is_utf8 text ≡ true
ruled_utf8 A text z = is_utf8-from_IsUtf8 text (z.0, (z.1, z.2))

-- no value
not_none : {A : Type 0} (x : A) → Some x ≡ None → ⊥
not_none x e = cc

-- ---- the longest front that is UTF-8

valid_front : (text : Text) (n : ℕ) → is_utf8 (take (valid_len_up_to text n) text) ≡ true
valid_front text zero = is_utf8-from_IsUtf8 [] IsUtf8-nil
valid_front text (suc n) = by (is_utf8 (take (suc n) text)) refl (valid_front text n)
  where
    by : (b : Bool) → is_utf8 (take (suc n) text) ≡ b → is_utf8 (take (valid_len_up_to text n) text) ≡ true → is_utf8 (take (if b then suc n else valid_len_up_to text n) text) ≡ true
    by true e h = e
    by false e h = h

no_longer_front : (text : Text) (n m : ℕ) → valid_len_up_to text n < m → m ≤ n → is_utf8 (take m text) ≡ false
no_longer_front text zero m low high = absurd (omega arith)
no_longer_front text (suc n) m low high = by (is_utf8 (take (suc n) text)) refl low (no_longer_front text n m)
  where
    by : (b : Bool) → is_utf8 (take (suc n) text) ≡ b → (if b then suc n else valid_len_up_to text n) < m
        → (valid_len_up_to text n < m → m ≤ n → is_utf8 (take m text) ≡ false) → is_utf8 (take m text) ≡ false
    by true e low more = absurd (omega arith)
    by false e low more = ⊎_elim (λ h. let last : m ≡ suc n = omega arith in ap (λ k. is_utf8 (take k text)) last ∙ e) (more low) (cases_lt n m)

-- the fault of bytes that are not UTF-8 stands behind it
pub invalid_place : (text : Text) → is_utf8 text ≡ false → IsValidUpTo text (not_utf8 text).at
unfolding utf8_valid_len
invalid_place text u = record { short = short; front = IsUtf8-from_is_utf8 (take n text) front; longest = longest }
  where
    n : ℕ
    n = valid_len_up_to text (length text)

    front : is_utf8 (take n text) ≡ true
    front = valid_front text (length text)

    is_whole : (m : ℕ) → length text ≤ m → is_utf8 (take m text) ≡ false
    is_whole m h = ap is_utf8 (take_all m text h) ∙ u

    short : n < length text
    short = ⊎_elim (λ h. h) (λ h. absurd (true≢false (sym front ∙ is_whole n h))) (cases_lt n (length text))

    longer : (m : ℕ) → n < m → is_utf8 (take m text) ≡ false
    longer m low = ⊎_elim (λ h. no_longer_front text (length text) m low (omega arith)) (is_whole m) (cases_lt m (length text))

    longest : (m : ℕ) → n < m → ¬ (IsUtf8 (take m text))
    longest m low z = true≢false (sym (is_utf8-from_IsUtf8 (take m text) z) ∙ longer m low)

module _ (set : CharTests) (above : AreAboveAscii set) where
  -- ---- pieces of a text

  valid_text : (text : Text) (ps : List Piece) → is_utf8 text ≡ true → fault_of_pieces set text ps ≡ first_fault set text ps
  valid_text text ps u = λ i. if u i then first_fault set text ps else Some (not_utf8 text)

  pub invalid_text : (text : Text) (ps : List Piece) → is_utf8 text ≡ false → fault_of_pieces set text ps ≡ Some (not_utf8 text)
  invalid_text text ps u = λ i. if u i then first_fault set text ps else Some (not_utf8 text)

  no_fault_of : (A : Rule) (text : Text) (ps : List Piece) → (IsUtf8 text → AreSound set above text ps) → (IsUtf8 text → AreInRules set ps ↔ InUtf8 A text) → (fault_of_pieces set text ps ≡ None) ↔ InUtf8 A text
  no_fault_of A text ps s r = by (is_utf8 text) refl
    where
      by : (b : Bool) → is_utf8 text ≡ b → (fault_of_pieces set text ps ≡ None) ↔ InUtf8 A text
      by true u =
          let utf8 = IsUtf8-from_is_utf8 text u in
          let n = no_fault_is set above text ps (s utf8) in
          let same = valid_text text ps u in
          (λ e. (r utf8).0 (n.0 (sym same ∙ e)), λ z. same ∙ n.1 ((r utf8).1 z))
      by false u = (λ e. absurd (not_none (not_utf8 text) (sym (invalid_text text ps u) ∙ e)), λ z. absurd (true≢false (sym (ruled_utf8 A text z) ∙ u)))

  fault_of : (text : Text) (ps : List Piece) (f : FaultValue) → is_utf8 text ≡ true → (IsUtf8 text → AreSound set above text ps) → (fault_of_pieces set text ps ≡ Some f) ↔ IsFirstFault set text ps f
  fault_of text ps f u s =
      let n = first_fault_is set above text ps (s (IsUtf8-from_is_utf8 text u)) f in
      let same = valid_text text ps u in
      (λ e. n.0 (sym same ∙ e), λ z. same ∙ n.1 z)

  -- ---- where a fault is

  abbrev IsWithin : Text → FaultValue → Type 0
  IsWithin text f = (f.at ≤ length text) × (is_utf8 (take f.at text) ≡ true)

  sound_at : (text : Text) (front : List Piece) (p : Piece) (back : List Piece) → AreSound set above text (front ++ p ∷ back) → IsSound set above text p
  sound_at text [] p back s = s.0
  sound_at text (q ∷ qs) p back s = sound_at text qs p back s.1

  first_within : (text : Text) (ps : List Piece) (f : FaultValue) → IsUtf8 text → AreSound set above text ps → IsFirstFault set text ps f → IsWithin text f
  first_within text ps f u s z =
      let p = sound_at text z.front z.piece z.back (subst (AreSound set above text) (sym z.divided) s) in
      let b = slice_boundary text z.piece.start z.piece.text z.place p.slice in
      let at : z.piece.start + bytes_before z.place (chars z.piece.text) ≡ f.at = ap (λ (g : FaultValue). g.at) z.named in
      subst (λ n. (n ≤ length text) × (is_utf8 (take n text) ≡ true)) at
      (b.0, is_utf8-from_IsUtf8 (take (z.piece.start + bytes_before z.place (chars z.piece.text)) text) (IsUtf8-take text (z.piece.start + bytes_before z.place (chars z.piece.text)) u b))

  -- no character stands there exactly if the text ends there
  no_first : (t : Text) → IsUtf8 t → (first_char (chars t) ≡ None) ↔ (length t ≡ 0)
  no_first t u = by (chars t) (encodes-chars t u)
    where
      by : (cs : Text) → encode_utf8_all cs ≡ t → (first_char cs ≡ None) ↔ (length t ≡ 0)
      by [] e = (λ h. ap length (sym e), λ h. refl)
      by (c ∷ cs) e = (λ h. absurd (not_none c h), λ h. absurd (omega (arith, ap length e, length-append (encode_utf8 c) (encode_utf8_all cs), length-encode c, (len_utf8_bounds c).0)))

  abbrev EndsThere : Text → FaultValue → Type 0
  EndsThere text f = (f.found ≡ None) ↔ (f.at ≡ length text)

  first_found : (text : Text) (ps : List Piece) (f : FaultValue) → IsUtf8 text → AreSound set above text ps → IsFirstFault set text ps f → EndsThere text f
  first_found text ps f u s z =
      let p = sound_at text z.front z.piece z.back (subst (AreSound set above text) (sym z.divided) s) in
      let at = z.piece.start + bytes_before z.place (chars z.piece.text) in
      let b = slice_boundary text z.piece.start z.piece.text z.place p.slice in
      let n = no_first (drop at text) (IsUtf8-drop text at u b) in
      let within : at ≤ length text = b.0 in
      let long : length (drop at text) ≡ length text - at = length-drop at text in
      subst (EndsThere text) z.named (λ h. let none : length (drop at text) ≡ 0 = n.0 h in omega arith, λ h. n.1 (omega arith))

  found : (text : Text) (ps : List Piece) (f : FaultValue) → is_utf8 text ≡ true → (IsUtf8 text → AreSound set above text ps) → fault_of_pieces set text ps ≡ Some f → EndsThere text f
  found text ps f u s e = let utf8 = IsUtf8-from_is_utf8 text u in first_found text ps f utf8 (s utf8) ((fault_of text ps f u s).0 e)

  invalid_within : (text : Text) → IsWithin text (not_utf8 text)
  unfolding utf8_valid_len
  invalid_within text = (utf8_valid_len_le text, valid_front text (length text))

  within : (text : Text) (ps : List Piece) (f : FaultValue) → (IsUtf8 text → AreSound set above text ps) → fault_of_pieces set text ps ≡ Some f → IsWithin text f
  within text ps f s e = by (is_utf8 text) refl
    where
      by : (b : Bool) → is_utf8 text ≡ b → IsWithin text f
      by true u = let utf8 = IsUtf8-from_is_utf8 text u in first_within text ps f utf8 (s utf8) ((fault_of text ps f u s).0 e)
      by false u = subst (IsWithin text) (same_Some (not_utf8 text) f (sym (invalid_text text ps u) ∙ e)) (invalid_within text)

  -- ---- single texts

  part_sound : (rule : PartRule) (text : Text) → is_bare rule ≡ false → IsUtf8 text → AreSound set above text (piece rule 0 text)
  part_sound rule text h u = (record { slice = whole_slice text u; shape = any_shape rule (chars text) h }, tt)

  pub no_fault_of_part : (rule : PartRule) (text : Text) → is_bare rule ≡ false → (fault_of_part set rule text ≡ None) ↔ InUtf8 (rule_of set rule) text
  unfolding fault_of_part
  no_fault_of_part rule text h = no_fault_of (rule_of set rule) text (piece rule 0 text) (part_sound rule text h) (λ u. (λ z. z.0, λ z. (z, tt)))

  pub part_fault_is : (rule : PartRule) (text : Text) (f : FaultValue) → is_bare rule ≡ false → is_utf8 text ≡ true → (fault_of_part set rule text ≡ Some f) ↔ IsPartFault set rule text f
  unfolding fault_of_part
  part_fault_is rule text f h u = let n = fault_of text (piece rule 0 text) f u (part_sound rule text h) in (λ e. there (n.0 e), λ z. n.1 (back z))
    where
      from_start : (n : ℕ) → 0 + n ≡ n
      from_start n = omega arith

      of_piece : (place : ℕ) → IsPlaceIn set rule (chars text) place → fault_at text rule (0 + bytes_before place (chars text)) ≡ f → IsPartFault set rule text f
      of_piece place s e = record { place = place; stands = s; named = ap (fault_at text rule) (sym (from_start (bytes_before place (chars text)))) ∙ e }

      of_list : (front : List Piece) (p : Piece) (back : List Piece) → front ++ p ∷ back ≡ piece rule 0 text → (place : ℕ) → IsPlaceIn set p.rule (chars p.text) place
          → fault_at text p.rule (p.start + bytes_before place (chars p.text)) ≡ f → IsPartFault set rule text f
      of_list [] p back d place s e =
          let same : p ≡ record { rule = rule; start = 0; text = text } = cc in
          of_piece place (subst (λ (q : Piece). IsPlaceIn set q.rule (chars q.text) place) same s) (subst (λ (q : Piece). fault_at text q.rule (q.start + bytes_before place (chars q.text)) ≡ f) same e)
      of_list (q ∷ []) p back d place s e = absurd (no_more q p back d)
        where
          no_more : (q p : Piece) (back : List Piece) → q ∷ p ∷ back ≡ piece rule 0 text → ⊥
          no_more q p back d = cc
      of_list (q ∷ r ∷ front) p back d place s e = absurd (no_more q r (front ++ p ∷ back) d)
        where
          no_more : (q r : Piece) (back : List Piece) → q ∷ r ∷ back ≡ piece rule 0 text → ⊥
          no_more q r back d = cc

      there : IsFirstFault set text (piece rule 0 text) f → IsPartFault set rule text f
      there z = of_list z.front z.piece z.back z.divided z.place z.stands z.named

      back : IsPartFault set rule text f → IsFirstFault set text (piece rule 0 text) f
      back z = record {
        front = [];
        piece = record { rule = rule; start = 0; text = text };
        back = [];
        place = z.place;
        divided = refl;
        in_rules = tt;
        stands = z.stands;
        named = ap (fault_at text rule) (from_start (bytes_before z.place (chars text))) ∙ z.named;
      }

  pub part_within : (rule : PartRule) (text : Text) (f : FaultValue) → is_bare rule ≡ false → fault_of_part set rule text ≡ Some f → IsWithin text f
  unfolding fault_of_part
  part_within rule text f h e = within text (piece rule 0 text) f (part_sound rule text h) e

  pub part_found : (rule : PartRule) (text : Text) (f : FaultValue) → is_bare rule ≡ false → is_utf8 text ≡ true → fault_of_part set rule text ≡ Some f → EndsThere text f
  unfolding fault_of_part
  part_found rule text f h u e = found text (piece rule 0 text) f u (part_sound rule text h) e

  pub part_invalid : (rule : PartRule) (text : Text) → is_utf8 text ≡ false → fault_of_part set rule text ≡ Some (not_utf8 text)
  unfolding fault_of_part
  part_invalid rule text u = invalid_text text (piece rule 0 text) u

  -- ---- authorities

  authority_pieces_sound : (text : Text) → IsUtf8 text → AreSound set above text (authority_pieces 0 text)
  authority_pieces_sound text u = authority_sound set above text 0 text (whole_slice text u)

  pub no_fault_of_authority : (text : Text) → (fault_of_authority set text ≡ None) ↔ InUtf8 (IsAuthority set) text
  unfolding fault_of_authority
  no_fault_of_authority text = no_fault_of (IsAuthority set) text (authority_pieces 0 text) (authority_pieces_sound text) (λ u. authority_pieces_are set above 0 text)

  pub authority_fault_is : (text : Text) (f : FaultValue) → is_utf8 text ≡ true → (fault_of_authority set text ≡ Some f) ↔ IsFirstFault set text (authority_pieces 0 text) f
  unfolding fault_of_authority
  authority_fault_is text f u = fault_of text (authority_pieces 0 text) f u (authority_pieces_sound text)

  pub authority_within : (text : Text) (f : FaultValue) → fault_of_authority set text ≡ Some f → IsWithin text f
  unfolding fault_of_authority
  authority_within text f e = within text (authority_pieces 0 text) f (authority_pieces_sound text) e

  pub authority_found : (text : Text) (f : FaultValue) → is_utf8 text ≡ true → fault_of_authority set text ≡ Some f → EndsThere text f
  unfolding fault_of_authority
  authority_found text f u e = found text (authority_pieces 0 text) f u (authority_pieces_sound text) e

  pub authority_invalid : (text : Text) → is_utf8 text ≡ false → fault_of_authority set text ≡ Some (not_utf8 text)
  unfolding fault_of_authority
  authority_invalid text u = invalid_text text (authority_pieces 0 text) u

  -- ---- references

  pub no_fault_of_reference : (text : Text) → (fault_of_reference set text ≡ None) ↔ InUtf8 (IsUriReference set) text
  unfolding fault_of_reference
  no_fault_of_reference text = no_fault_of (IsUriReference set) text (pieces_of text) (pieces_sound set above text) (reference_pieces_are set above text)

  pub reference_fault_is : (text : Text) (f : FaultValue) → is_utf8 text ≡ true → (fault_of_reference set text ≡ Some f) ↔ IsFirstFault set text (pieces_of text) f
  unfolding fault_of_reference
  reference_fault_is text f u = fault_of text (pieces_of text) f u (pieces_sound set above text)

  pub reference_within : (text : Text) (f : FaultValue) → fault_of_reference set text ≡ Some f → IsWithin text f
  unfolding fault_of_reference
  reference_within text f e = within text (pieces_of text) f (pieces_sound set above text) e

  pub reference_found : (text : Text) (f : FaultValue) → is_utf8 text ≡ true → fault_of_reference set text ≡ Some f → EndsThere text f
  unfolding fault_of_reference
  reference_found text f u e = found text (pieces_of text) f u (pieces_sound set above text) e

  pub reference_invalid : (text : Text) → is_utf8 text ≡ false → fault_of_reference set text ≡ Some (not_utf8 text)
  unfolding fault_of_reference
  reference_invalid text u = invalid_text text (pieces_of text) u

  -- ---- URIs

  with_scheme : (text : Text) → has_cut_scheme text ≡ true → fault_of_uri set text ≡ fault_of_pieces set text (pieces_of text)
  unfolding fault_of_uri
  with_scheme text h = λ i. if is_utf8 text then (if h i then first_fault set text (pieces_of text) else Some no_scheme) else Some (not_utf8 text)

  pub uri_without_scheme : (text : Text) → is_utf8 text ≡ true → has_cut_scheme text ≡ false → fault_of_uri set text ≡ Some no_scheme
  unfolding fault_of_uri
  uri_without_scheme text u h = λ i. if u i then (if h i then first_fault set text (pieces_of text) else Some no_scheme) else Some (not_utf8 text)

  pub uri_invalid : (text : Text) → is_utf8 text ≡ false → fault_of_uri set text ≡ Some (not_utf8 text)
  unfolding fault_of_uri
  uri_invalid text u = λ i. if u i then (if has_cut_scheme text then first_fault set text (pieces_of text) else Some no_scheme) else Some (not_utf8 text)

  pub uri_fault_is : (text : Text) (f : FaultValue) → is_utf8 text ≡ true → has_cut_scheme text ≡ true → (fault_of_uri set text ≡ Some f) ↔ IsFirstFault set text (pieces_of text) f
  uri_fault_is text f u h =
      let n = fault_of text (pieces_of text) f u (pieces_sound set above text) in
      (λ e. n.0 (sym (with_scheme text h) ∙ e), λ z. with_scheme text h ∙ n.1 z)

  pub uri_found : (text : Text) (f : FaultValue) → is_utf8 text ≡ true → has_cut_scheme text ≡ true → fault_of_uri set text ≡ Some f → EndsThere text f
  uri_found text f u h e = found text (pieces_of text) f u (pieces_sound set above text) (sym (with_scheme text h) ∙ e)

  -- a text without a scheme is no URI
  no_uri : (text : Text) → has_cut_scheme text ≡ false → InUtf8 (IsUri set) text → ⊥
  no_uri text h z = true≢false (sym ((uri_pieces_are set above text (z.0, (z.1, z.2))).1 z).0 ∙ h)

  pub no_fault_of_uri : (text : Text) → (fault_of_uri set text ≡ None) ↔ InUtf8 (IsUri set) text
  no_fault_of_uri text = by (has_cut_scheme text) refl (is_utf8 text) refl
    where
      by : (b : Bool) → has_cut_scheme text ≡ b → (d : Bool) → is_utf8 text ≡ d → (fault_of_uri set text ≡ None) ↔ InUtf8 (IsUri set) text
      by true h d k =
          let n = no_fault_of (IsUri set) text (pieces_of text) (pieces_sound set above text) (λ u. let r = uri_pieces_are set above text u in (λ a. r.0 (h, a), λ z. (r.1 z).1)) in
          (λ e. n.0 (sym (with_scheme text h) ∙ e), λ z. with_scheme text h ∙ n.1 z)
      by false h true k = (λ e. absurd (not_none no_scheme (sym (uri_without_scheme text k h) ∙ e)), λ z. absurd (no_uri text h z))
      by false h false k = (λ e. absurd (not_none (not_utf8 text) (sym (uri_invalid text k) ∙ e)), λ z. absurd (no_uri text h z))

  pub uri_within : (text : Text) (f : FaultValue) → fault_of_uri set text ≡ Some f → IsWithin text f
  uri_within text f e = by (has_cut_scheme text) refl (is_utf8 text) refl
    where
      by : (b : Bool) → has_cut_scheme text ≡ b → (d : Bool) → is_utf8 text ≡ d → IsWithin text f
      by true h d k = within text (pieces_of text) f (pieces_sound set above text) (sym (with_scheme text h) ∙ e)
      by false h true k = subst (IsWithin text) (same_Some no_scheme f (sym (uri_without_scheme text k h) ∙ e)) (omega arith, is_utf8-from_IsUtf8 [] IsUtf8-nil)
      by false h false k = subst (IsWithin text) (same_Some (not_utf8 text) f (sym (uri_invalid text k) ∙ e)) (invalid_within text)

-- ---- each piece stands where it says

abbrev pub StandsAt : Text → Piece → Type 0
StandsAt text p = take (length p.text) (drop p.start text) ≡ p.text

slice_stands : (text : Text) (start : ℕ) (part : Text) → IsSlice text start part → take (length part) (drop start text) ≡ part
slice_stands text start part s =
    let rest : drop start text ≡ part ++ s.back = (λ i. drop (sym s.starts i) (sym s.divided i)) ∙ drop-append_seam s.front (part ++ s.back) in
    ap (take (length part)) rest ∙ take-append_seam part s.back

stand : (set : CharTests) (above : AreAboveAscii set) (text : Text) (ps : List Piece) → AreSound set above text ps → AllByRecursion (StandsAt text) ps
stand set above text [] s = tt
stand set above text (p ∷ ps) s = (slice_stands text p.start p.text s.0.slice, stand set above text ps s.1)

pub pieces_stand : (text : Text) → is_utf8 text ≡ true → AllByRecursion (StandsAt text) (pieces_of text)
pieces_stand text u = stand uri_chars uri_above_ascii text (pieces_of text) (pieces_sound uri_chars uri_above_ascii text (IsUtf8-from_is_utf8 text u))

pub authority_pieces_stand : (text : Text) → is_utf8 text ≡ true → AllByRecursion (StandsAt text) (authority_pieces 0 text)
authority_pieces_stand text u = stand uri_chars uri_above_ascii text (authority_pieces 0 text) (authority_pieces_sound uri_chars uri_above_ascii text (IsUtf8-from_is_utf8 text u))

-- what are laws of faults
pub ruleset laws = (invalid_place, part_invalid, authority_invalid, reference_invalid, uri_invalid, part_found, authority_found, reference_found, uri_found, pieces_stand, authority_pieces_stand, authority_cut, reference_cut)

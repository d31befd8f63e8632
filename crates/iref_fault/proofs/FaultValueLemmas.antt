-- The fault of a text, from the first place in bytes.
use Rattle.std.proofs.Common.{◌≡◌, ℕ, ◌+◌, true, false, List, [], ◌∷◌, refl, sym, ap, subst, ◌∙◌, arith, chars, IsUtf8, Option, Some, None, option_map, IfSome, if◌then◌else◌}
use Rattle.std.proofs.lemmas.Str.{is_utf8-from_IsUtf8}
use Rattle.std.specs.{Option.{option_or}, Str.{IsCharBoundary, is_utf8}, List.{AllByRecursion}}
use Rattle.iref_grammar.specs.{Characters.{CharTests, AreAboveAscii}, Rules.{Text}}
use Rattle.iref_fault.specs.{declared.pieces.Place.{Place}, Places.{PartRule, component_of, place_in, bytes_before}}
use Rattle.iref_fault.specs.Cut.{Piece, piece, authority_pieces, pieces_of, has_cut_scheme}
use Rattle.iref_fault.specs.Faults.{FaultValue, fault_at, fault_of_piece, first_fault, fault_of_part, fault_of_authority, fault_of_reference, fault_of_uri, no_scheme, not_utf8}
use Rattle.iref_fault.specs.BytePlaces.{located, placed, place_of_piece, first_place, value_at}
use Rattle.iref_fault.proofs.{CutSliceLemmas.{IsSlice, whole_slice, slice_boundary}, PieceLemmas.{AreSound}}
use Rattle.iref_fault.proofs.CutPieceLemmas.{authority_sound, pieces_sound}

-- ---- the value

or-map : (f : Place → FaultValue) (x y : Option Place) → option_map f (option_or x y) ≡ option_or (option_map f x) (option_map f y)
or-map f None y = refl
or-map f (Some p) y = refl

piece_value : (set : CharTests) (text : Text) (p : Piece) → option_map (value_at text) (place_of_piece set p) ≡ fault_of_piece set text p
unfolding fault_of_piece
piece_value set text p = by (place_in set p.rule (chars p.text))
  where
    by : (o : Option ℕ) → option_map (value_at text) (placed (component_of p.rule) p.start (located 0 (chars p.text) o)) ≡ option_map (λ place. fault_at text p.rule (p.start + bytes_before place (chars p.text))) o
    by None = refl
    by (Some n) =
        let at : p.start + (0 + bytes_before n (chars p.text)) ≡ p.start + bytes_before n (chars p.text) = omega arith in
        ap (λ k. Some (fault_at text p.rule k)) at

pub first_value : (set : CharTests) (text : Text) (ps : List Piece) → option_map (value_at text) (first_place set ps) ≡ first_fault set text ps
first_value set text [] = refl
first_value set text (p ∷ ps) =
    let one = piece_value set text p in
    let more = first_value set text ps in
    or-map (value_at text) (place_of_piece set p) (first_place set ps) ∙ (λ i. option_or (one i) (more i))

module _ (set : CharTests) (text : Text) (u : IsUtf8 text) where
  if_utf8 : (ps : List Piece) → option_map (value_at text) (first_place set ps) ≡ (if is_utf8 text then first_fault set text ps else Some (not_utf8 text))
  if_utf8 ps = first_value set text ps ∙ ap (λ b. if b then first_fault set text ps else Some (not_utf8 text)) (sym (is_utf8-from_IsUtf8 text u))

  pub part_value : (rule : PartRule) → option_map (value_at text) (first_place set (piece rule 0 text)) ≡ fault_of_part set rule text
  unfolding fault_of_part
  part_value rule = if_utf8 (piece rule 0 text)

  pub authority_value : option_map (value_at text) (first_place set (authority_pieces 0 text)) ≡ fault_of_authority set text
  unfolding fault_of_authority
  authority_value = if_utf8 (authority_pieces 0 text)

  pub reference_value : option_map (value_at text) (first_place set (pieces_of text)) ≡ fault_of_reference set text
  unfolding fault_of_reference
  reference_value = if_utf8 (pieces_of text)

  -- of a URI, with a scheme and without
  pub uri_value : has_cut_scheme text ≡ true → fault_of_reference set text ≡ fault_of_uri set text
  unfolding fault_of_reference fault_of_uri
  uri_value h = ap (λ b. if is_utf8 text then (if b then first_fault set text (pieces_of text) else Some no_scheme) else Some (not_utf8 text)) (sym h)

  pub no_scheme_value : has_cut_scheme text ≡ false → Some no_scheme ≡ fault_of_uri set text
  unfolding fault_of_uri
  no_scheme_value h =
      ap (λ b. if b then Some no_scheme else Some (not_utf8 text)) (sym (is_utf8-from_IsUtf8 text u))
      ∙ ap (λ b. if is_utf8 text then (if b then first_fault set text (pieces_of text) else Some no_scheme) else Some (not_utf8 text)) (sym h)

-- ---- the place

-- a text may be cut where one of its pieces is wrong
abbrev IsPart : Text → Piece → Type 0
IsPart text p = IsSlice text p.start p.text

piece_boundary : (set : CharTests) (text : Text) (p : Piece) → IsPart text p → IfSome (place_of_piece set p) (λ q. IsCharBoundary text q.at)
piece_boundary set text p s = by (place_in set p.rule (chars p.text))
  where
    by : (o : Option ℕ) → IfSome (placed (component_of p.rule) p.start (located 0 (chars p.text) o)) (λ q. IsCharBoundary text q.at)
    by None = tt
    by (Some n) =
        let at : p.start + bytes_before n (chars p.text) ≡ p.start + (0 + bytes_before n (chars p.text)) = omega arith in
        subst (IsCharBoundary text) at (slice_boundary text p.start p.text n s)

or-boundary : (text : Text) (x y : Option Place) → IfSome x (λ q. IsCharBoundary text q.at) → IfSome y (λ q. IsCharBoundary text q.at) → IfSome (option_or x y) (λ q. IsCharBoundary text q.at)
or-boundary text None y a b = b
or-boundary text (Some p) y a b = a

first_boundary : (set : CharTests) (text : Text) (ps : List Piece) → AllByRecursion (IsPart text) ps → IfSome (first_place set ps) (λ q. IsCharBoundary text q.at)
first_boundary set text [] s = tt
first_boundary set text (p ∷ ps) s = or-boundary text (place_of_piece set p) (first_place set ps) (piece_boundary set text p s.0) (first_boundary set text ps s.1)

as_parts : (set : CharTests) (above : AreAboveAscii set) (text : Text) (ps : List Piece) → AreSound set above text ps → AllByRecursion (IsPart text) ps
as_parts set above text [] s = tt
as_parts set above text (p ∷ ps) s = (s.0.slice, as_parts set above text ps s.1)

module _ (text : Text) (u : IsUtf8 text) (place : Option Place) where
  abbrev IsBoundary : Type 0
  IsBoundary = IfSome place (λ q. IsCharBoundary text q.at)

  abbrev is_at : (set : CharTests) (ps : List Piece) → place ≡ first_place set ps → AllByRecursion (IsPart text) ps → IsBoundary
  is_at set ps e s = subst (λ o. IfSome o (λ q. IsCharBoundary text q.at)) (sym e) (first_boundary set text ps s)

  pub part_boundary : (set : CharTests) (rule : PartRule) → place ≡ first_place set (piece rule 0 text) → IsBoundary
  part_boundary set rule e = is_at set (piece rule 0 text) e (whole_slice text u, tt)

  pub authority_boundary : (set : CharTests) → AreAboveAscii set → place ≡ first_place set (authority_pieces 0 text) → IsBoundary
  authority_boundary set above e = is_at set (authority_pieces 0 text) e (as_parts set above text (authority_pieces 0 text) (authority_sound set above text 0 text (whole_slice text u)))

  pub reference_boundary : (set : CharTests) → AreAboveAscii set → place ≡ first_place set (pieces_of text) → IsBoundary
  reference_boundary set above e = is_at set (pieces_of text) e (as_parts set above text (pieces_of text) (pieces_sound set above text u))

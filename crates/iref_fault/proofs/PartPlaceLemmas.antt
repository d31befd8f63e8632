-- The place that is computed, rule by rule, is where the text is outside its rule.
use Rattle.std.proofs.Common.{arith, ◌≡◌, ℕ, zero, suc, Bool, true, false, [], ◌∷◌, ◌++◌, ◌⊎◌, inl, inr, refl, sym, ◌∙◌, ap, subst, take, lit<, ◌==◌, ◌&&◌, ◌||◌, Option, Some, None, option_map, if◌then◌else◌, true≢false}
use Rattle.std.proofs.{lemmas.Bool.{and_from}, lemmas.Bool.Decides.{eqb_tells, Decides-like, Decides-and, Decides-or}}
use Rattle.std.proofs.Math.Bool.{or-true}
use Rattle.std.specs.{Bool.{Decides}, List.{list_all}, Char.{is_ascii_alphabetic, is_ascii_digit, char_set_contains}}
use Rattle.iref_grammar.specs.{Characters.{CharTests, AreAboveAscii}, Rules.{Text}}
use Rattle.iref_grammar.specs.Grammar.{colon, slash, left_bracket, is_scheme_char, is_user_info_char, is_reg_name_char, is_path_char, is_fragment_char, is_query_char, IsHost, IsIpLiteral, IsRegName, IsPath}
use Rattle.iref_grammar.specs.Tests.{is_encoded, is_encoded_after, is_scheme, is_port, is_ip_literal}
use Rattle.iref_grammar.specs.Texts.{before, begins_with, lacks}
use Rattle.iref_grammar.proofs.{RuleLemmas.{more_like}, EncodedLemmas.{Piece, Decides-is_encoded, by_char}}
use Rattle.iref_grammar.proofs.LeafLemmas.{percent_refused, user_info_refuses, path_refuses, fragment_refuses, query_refuses, Decides-is_scheme, Decides-is_port}
use Rattle.iref_grammar.proofs.PathTextLemmas.{PathPiece, to_path_piece, from_path_piece}
use Rattle.iref_grammar.proofs.HostRuleLemmas.{Decides-is_ip_literal, ipv4_reg_name}
use Rattle.iref_grammar.proofs.ComponentLackLemmas.{reg_name_refuses}
use Rattle.iref_grammar.proofs.CutLemmas.{before-no, before-yes, first_lacks, rest_lacks}
use Rattle.iref_fault.specs.Places.{PartRule, Scheme, UserInfo, Host, Port, Path, BarePath, Segment, Query, Fragment, is_bare, rule_of, is_bracketed, IsPlaceIn, place_in, scheme_place, host_place, path_place, bare_path_place, ones_place, encoded_place}
use Rattle.iref_fault.proofs.EncodedPlaceLemmas.{IsTestPlace, PlaceTells, place_of_rule, encoded_tells, ones_tell}

-- ---- the tests of characters

abbrev pub is_host_text : CharTests → Text → Bool
is_host_text set text = is_ip_literal text || is_encoded (is_reg_name_char set) text

abbrev pub is_path_text : CharTests → Text → Bool
is_path_text set text = is_encoded (λ c. is_path_char set c || c == slash) text

abbrev pub has_plain_start : Text → Bool
has_plain_start text = lacks colon (before (slash ∷ []) text)

abbrev pub test_of : CharTests → PartRule → Text → Bool
test_of set Scheme text = is_scheme text
test_of set UserInfo text = is_encoded (is_user_info_char set) text
test_of set Host text = is_host_text set text
test_of set Port text = list_all is_ascii_digit text
test_of set Path text = is_path_text set text
test_of set BarePath text = is_path_text set text && has_plain_start text
test_of set Segment text = is_encoded (is_path_char set) text
test_of set Query text = is_encoded (is_query_char set) text
test_of set Fragment text = is_encoded (is_fragment_char set) text

-- ---- schemes

scheme_tells : (text : Text) → PlaceTells is_scheme text (scheme_place text)
unfolding is_scheme
scheme_tells [] = record { outside = refl; rest = 97 ∷ []; plain = refl; begins = refl; ends = inl refl }
scheme_tells (c ∷ cs) = by (is_ascii_alphabetic c) refl (ones_place is_scheme_char cs) (ones_tell is_scheme_char cs)
  where
    by : (b : Bool) → is_ascii_alphabetic c ≡ b → (p : Option ℕ) → PlaceTells (list_all is_scheme_char) cs p → PlaceTells is_scheme (c ∷ cs) (if b then option_map suc p else Some 0)
    by false e p more = record { outside = ap (λ b. b && list_all is_scheme_char cs) e; rest = 97 ∷ []; plain = refl; begins = refl; ends = inr (λ more. ap (λ b. b && list_all is_scheme_char more) e) }
    by true e None h = and_from (is_ascii_alphabetic c) (list_all is_scheme_char cs) e h
    by true e (Some n) z = record {
      outside = ap (λ b. b && list_all is_scheme_char cs) e ∙ z.outside;
      rest = z.rest;
      plain = z.plain;
      begins = and_from (is_ascii_alphabetic c) (list_all is_scheme_char (take n cs ++ z.rest)) e z.begins;
      ends = elim z.ends [
        | inl f ↦ inl (ap suc f)
        | inr h ↦ inr (λ more. ap (λ b. b && list_all is_scheme_char (take (suc n) cs ++ more)) e ∙ h more)
      ];
    }

-- ---- hosts

no_literal : (c : ℕ) (cs : Text) → (c == left_bracket) ≡ false → is_ip_literal (c ∷ cs) ≡ false
unfolding is_ip_literal
no_literal c cs h = grind arith

module _ (set : CharTests) (above : AreAboveAscii set) where
  no_name : (cs : Text) → is_encoded (is_reg_name_char set) (left_bracket ∷ cs) ≡ false
  no_name cs =
      ap (λ o. is_encoded_after (is_reg_name_char set) o cs)
      (by_char (is_reg_name_char set) left_bracket refl ∙ ap (λ b. if b then Some 0 else None) (reg_name_refuses set above left_bracket (lit< tt) refl refl))

  -- a text that does not begin with `[` is a host if it is a registered name
  host_if_name : (c : ℕ) (cs : Text) → (c == left_bracket) ≡ false → is_encoded (is_reg_name_char set) (c ∷ cs) ≡ is_host_text set (c ∷ cs)
  host_if_name c cs h = λ i. sym (no_literal c cs h) i || is_encoded (is_reg_name_char set) (c ∷ cs)

  as_host : (c : ℕ) (cs : Text) → (c == left_bracket) ≡ false → (p : Option ℕ) → PlaceTells (is_encoded (is_reg_name_char set)) (c ∷ cs) p → PlaceTells (is_host_text set) (c ∷ cs) p
  as_host c cs h None e = sym (host_if_name c cs h) ∙ e
  as_host c cs h (Some n) z = record {
    outside = sym (host_if_name c cs h) ∙ z.outside;
    rest = z.rest;
    plain = z.plain;
    begins = (λ i. is_ip_literal (take n (c ∷ cs) ++ z.rest) || z.begins i) ∙ or-true (is_ip_literal (take n (c ∷ cs) ++ z.rest));
    ends = elim z.ends [
      | inl f ↦ inl f
      | inr k ↦ inr (λ more. sym (host_if_name c (take n cs ++ more) h) ∙ k more)
    ];
  }

  -- a host is wrong at its `[`, or where a registered name is
  abbrev pub HostTells : Text → Option ℕ → Type 0
  HostTells text None = is_host_text set text ≡ true
  HostTells text (Some place) =
      ((begins_with (left_bracket ∷ []) text ≡ true) × (place ≡ 0) × (is_host_text set text ≡ false)) ⊎ ((begins_with (left_bracket ∷ []) text ≡ false) × IsTestPlace (is_host_text set) text place)

  plain_tells : (text : Text) → begins_with (left_bracket ∷ []) text ≡ false → (p : Option ℕ) → PlaceTells (is_host_text set) text p → HostTells text p
  plain_tells text b None h = h
  plain_tells text b (Some n) z = inr (b, z)

  bracket_tells : (c : ℕ) (cs : Text) → left_bracket ≡ c → begins_with (left_bracket ∷ []) (c ∷ cs) ≡ true → (b : Bool) → is_ip_literal (c ∷ cs) ≡ b → HostTells (c ∷ cs) (if b then None else Some 0)
  bracket_tells c cs e k true l = ap (λ b. b || is_encoded (is_reg_name_char set) (c ∷ cs)) l
  bracket_tells c cs e k false l = inl (k, refl, λ i. l i || subst (λ d. is_encoded (is_reg_name_char set) (d ∷ cs) ≡ false) e (no_name cs) i)

  pub host_tells : (text : Text) → HostTells text (host_place set text)
  unfolding is_ip_literal
  host_tells [] = refl
  host_tells (c ∷ cs) = elim (eqb_tells left_bracket c) [
    | inl e ↦
        let k : begins_with (left_bracket ∷ []) (c ∷ cs) ≡ true = λ i. e.0 i && true in
        subst (HostTells (c ∷ cs)) (λ i. if sym k i then (if is_ip_literal (c ∷ cs) then None else Some 0) else encoded_place (is_reg_name_char set) (c ∷ cs))
        (bracket_tells c cs e.1 k (is_ip_literal (c ∷ cs)) refl)
    | inr e ↦
        let k : begins_with (left_bracket ∷ []) (c ∷ cs) ≡ false = λ i. e.0 i && true in
        let other : (c == left_bracket) ≡ false = elim (eqb_tells c left_bracket) [ inl f ↦ absurd (e.1 (sym f.1)) | inr f ↦ f.0 ] in
        let p = encoded_place (is_reg_name_char set) (c ∷ cs) in
        subst (HostTells (c ∷ cs)) (λ i. if sym k i then (if is_ip_literal (c ∷ cs) then None else Some 0) else p)
        (plain_tells (c ∷ cs) k p (as_host c cs other p (encoded_tells (is_reg_name_char set) 0 (c ∷ cs))))
  ]

  pub Decides-is_host_text : (text : Text) → Decides (is_host_text set text) (IsHost set text)
  Decides-is_host_text text =
      Decides-like (is_host_text set text) (there text) (back text)
      (Decides-or (is_ip_literal text) (is_encoded (is_reg_name_char set) text) (Decides-is_ip_literal text) (Decides-is_encoded (is_reg_name_char set) (percent_refused set above) text))
    where
      there : (t : Text) → IsIpLiteral t ⊎ IsRegName set t → IsHost set t
      there t (inl l) = inl l
      there t (inr r) = inr (inr r)

      back : (t : Text) → IsHost set t → IsIpLiteral t ⊎ IsRegName set t
      back t (inl l) = inl l
      back t (inr (inl a)) = inr (ipv4_reg_name set above t a)
      back t (inr (inr r)) = inr r

-- ---- paths

pub plain_more : (c : ℕ) (cs : Text) → (colon == c) ≡ false → lacks colon (before (slash ∷ []) cs) ≡ true → lacks colon (c ∷ before (slash ∷ []) cs) ≡ true
plain_more c cs h k = grind arith

false_second : (a b : Bool) → b ≡ false → (a && b) ≡ false
false_second a b h = grind arith

-- what stands before the first `/` holds no `:`, of a rest that holds none
pub plain_rest : (rest : Text) → lacks colon rest ≡ true → has_plain_start rest ≡ true
plain_rest [] h = refl
plain_rest (c ∷ cs) h = by (char_set_contains (slash ∷ []) c) refl (plain_rest cs (rest_lacks colon c cs h))
  where
    by : (b : Bool) → char_set_contains (slash ∷ []) c ≡ b → has_plain_start cs ≡ true → has_plain_start (c ∷ cs) ≡ true
    by true e k = ap (lacks colon) (before-yes (slash ∷ []) c cs e)
    by false e k = ap (lacks colon) (before-no (slash ∷ []) c cs e) ∙ plain_more c cs (first_lacks colon c cs h) k

-- and of a text's front with such a rest
plain_front : (text : Text) (n : ℕ) (rest : Text) → lacks colon rest ≡ true → has_plain_start text ≡ true → has_plain_start (take n text ++ rest) ≡ true
plain_front [] zero rest l h = plain_rest rest l
plain_front [] (suc n) rest l h = plain_rest rest l
plain_front (c ∷ cs) zero rest l h = plain_rest rest l
plain_front (c ∷ cs) (suc n) rest l h = by (char_set_contains (slash ∷ []) c) refl (plain_front cs n rest l)
  where
    by : (b : Bool) → char_set_contains (slash ∷ []) c ≡ b → (has_plain_start cs ≡ true → has_plain_start (take n cs ++ rest) ≡ true) → has_plain_start (c ∷ (take n cs ++ rest)) ≡ true
    by true e k = ap (lacks colon) (before-yes (slash ∷ []) c (take n cs ++ rest) e)
    by false e k =
        let whole : lacks colon (c ∷ before (slash ∷ []) cs) ≡ true = ap (lacks colon) (sym (before-no (slash ∷ []) c cs e)) ∙ h in
        ap (lacks colon) (before-no (slash ∷ []) c (take n cs ++ rest) e)
        ∙ plain_more c (take n cs ++ rest) (first_lacks colon c (before (slash ∷ []) cs) whole) (k (rest_lacks colon c (before (slash ∷ []) cs) whole))

-- the first segment of a path that stands without a scheme: it begins with `:`, or holds none
abbrev pub HasBareShape : Text → Type 0
HasBareShape text = (begins_with (colon ∷ []) text ≡ true) ⊎ ((begins_with (colon ∷ []) text ≡ false) × (has_plain_start text ≡ true))

abbrev is_bare_text : CharTests → Text → Bool
is_bare_text set text = is_path_text set text && has_plain_start text

at_colon : (rest : Text) → has_plain_start (colon ∷ rest) ≡ false
at_colon rest = ap (lacks colon) (before-no (slash ∷ []) colon rest refl)

-- a text that begins with `:`, and any other that begins as it does
pub colon_starts : (text : Text) → begins_with (colon ∷ []) text ≡ true → (has_plain_start text ≡ false) × ((n : ℕ) (more : Text) → has_plain_start (take (suc n) text ++ more) ≡ false)
colon_starts [] h = absurd (true≢false (sym h))
colon_starts (c ∷ cs) h = elim (eqb_tells colon c) [
  | inl e ↦ subst (λ d. (has_plain_start (d ∷ cs) ≡ false) × ((n : ℕ) (more : Text) → has_plain_start (d ∷ (take n cs ++ more)) ≡ false)) e.1 (at_colon cs, λ n more. at_colon (take n cs ++ more))
  | inr e ↦ absurd (true≢false (sym h ∙ (λ i. e.0 i && true)))
]

as_bare : (set : CharTests) (text : Text) → has_plain_start text ≡ true → (p : Option ℕ) → PlaceTells (is_path_text set) text p → PlaceTells (is_bare_text set) text p
as_bare set text h None e = and_from (is_path_text set text) (has_plain_start text) e h
as_bare set text h (Some n) z = record {
  outside = ap (λ b. b && has_plain_start text) z.outside;
  rest = z.rest;
  plain = z.plain;
  begins = and_from (is_path_text set (take n text ++ z.rest)) (has_plain_start (take n text ++ z.rest)) z.begins (plain_front text n z.rest z.plain h);
  ends = elim z.ends [
    | inl f ↦ inl f
    | inr k ↦ inr (λ more. ap (λ b. b && has_plain_start (take (suc n) text ++ more)) (k more))
  ];
}

pub bare_tells : (set : CharTests) (text : Text) → HasBareShape text → PlaceTells (is_bare_text set) text (bare_path_place set text)
bare_tells set text (inr h) =
    subst (PlaceTells (is_bare_text set) text) (λ i. if sym h.0 i then Some 0 else path_place set text)
    (as_bare set text h.1 (path_place set text) (encoded_tells (λ c. is_path_char set c || c == slash) 0 text))
bare_tells set text (inl h) =
    subst (PlaceTells (is_bare_text set) text) (λ i. if sym h i then Some 0 else path_place set text)
    (record {
      outside = false_second (is_path_text set text) (has_plain_start text) (colon_starts text h).0;
      rest = [];
      plain = refl;
      begins = refl;
      ends = inr (λ more. false_second (is_path_text set (take 1 text ++ more)) (has_plain_start (take 1 text ++ more)) ((colon_starts text h).1 0 more));
    })

-- ---- each rule

-- the shape that the cut gives a path without a scheme
abbrev pub HasShape : PartRule → Text → Type 0
HasShape rule text = is_bare rule ≡ true → HasBareShape text

pub any_shape : (rule : PartRule) (text : Text) → is_bare rule ≡ false → HasShape rule text
any_shape rule text h b = absurd (true≢false (sym b ∙ h))

module _ (set : CharTests) (above : AreAboveAscii set) where
  Decides-is_path_text : (text : Text) → Decides (is_path_text set text) (IsPath set text)
  Decides-is_path_text text =
      let test = λ (c : ℕ). is_path_char set c || c == slash in
      Decides-like (is_path_text set text) (more_like (Piece test) (PathPiece set) (to_path_piece set) text) (more_like (PathPiece set) (Piece test) (from_path_piece set) text)
      (Decides-is_encoded test (λ i. path_refuses set above i || false) text)

  Decides-itself : (b : Bool) → Decides b (b ≡ true)
  Decides-itself b = (λ h. h, λ h. h)

  -- the test decides the rule
  pub Decides-part : (rule : PartRule) (text : Text) → Decides (test_of set rule text) (rule_of set rule text)
  unfolding is_port
  Decides-part Scheme text = Decides-is_scheme text
  Decides-part UserInfo text = Decides-is_encoded (is_user_info_char set) (user_info_refuses set above) text
  Decides-part Host text = Decides-is_host_text set above text
  Decides-part Port text = Decides-is_port text
  Decides-part Path text = Decides-is_path_text text
  Decides-part BarePath text = Decides-and (is_path_text set text) (has_plain_start text) (Decides-is_path_text text) (Decides-itself (has_plain_start text))
  Decides-part Segment text = Decides-is_encoded (is_path_char set) (path_refuses set above) text
  Decides-part Query text = Decides-is_encoded (is_query_char set) (query_refuses set above) text
  Decides-part Fragment text = Decides-is_encoded (is_fragment_char set) (fragment_refuses set above) text

  -- what the computed place tells of the rule
  abbrev pub RuleTells : PartRule → Text → Option ℕ → Type 0
  RuleTells rule text None = rule_of set rule text
  RuleTells rule text (Some place) = IsPlaceIn set rule text place

  from_test : (rule : PartRule) (text : Text) → is_bracketed rule text ≡ false → (p : Option ℕ) → PlaceTells (test_of set rule) text p → RuleTells rule text p
  from_test rule text b None h = (Decides-part rule text).0 h
  from_test rule text b (Some n) z =
      let place = place_of_rule (test_of set rule) (rule_of set rule) (Decides-part rule) text n z in
      record { outside = place.outside; stands = inr (b, place) }

  from_host : (text : Text) (p : Option ℕ) → HostTells set above text p → RuleTells Host text p
  from_host text None h = (Decides-part Host text).0 h
  from_host text (Some n) (inr z) = from_test Host text z.0 (Some n) z.1
  from_host text (Some n) (inl z) = record { outside = λ a. true≢false (sym ((Decides-part Host text).1 a) ∙ z.2); stands = inl (z.0, z.1) }

  pub place_tells : (rule : PartRule) (text : Text) → HasShape rule text → RuleTells rule text (place_in set rule text)
  unfolding place_in
  place_tells Scheme text s = from_test Scheme text refl (scheme_place text) (scheme_tells text)
  place_tells UserInfo text s = from_test UserInfo text refl _ (encoded_tells (is_user_info_char set) 0 text)
  place_tells Host text s = from_host text (host_place set text) (host_tells set above text)
  place_tells Port text s = from_test Port text refl _ (ones_tell is_ascii_digit text)
  place_tells Path text s = from_test Path text refl _ (encoded_tells (λ c. is_path_char set c || c == slash) 0 text)
  place_tells BarePath text s = from_test BarePath text refl (bare_path_place set text) (bare_tells set text (s refl))
  place_tells Segment text s = from_test Segment text refl _ (encoded_tells (is_path_char set) 0 text)
  place_tells Query text s = from_test Query text refl _ (encoded_tells (is_query_char set) 0 text)
  place_tells Fragment text s = from_test Fragment text refl _ (encoded_tells (is_fragment_char set) 0 text)

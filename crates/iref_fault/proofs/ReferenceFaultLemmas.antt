-- A text is a reference exactly if the pieces of it are in their rules.
use Rattle.std.proofs.Common.{◌≡◌, ℕ, ◌+◌, Bool, true, false, List, [], ◌∷◌, ◌++◌, inl, inr, refl, sym, ◌∙◌, ap, subst, length, lit<, ◌||◌, codes, Option, Some, None, IfSome, is_some, chars, if◌then◌else◌, true≢false}
use Rattle.std.proofs.{Math.Logic.{◌↔◌}, lemmas.Bool.{and_from}, lemmas.Str.{chars-encodes}}
use Rattle.std.specs.{Bool.{Decides}, Str.{IsUtf8}}
use Rattle.iref_grammar.specs.{Characters.{CharTests, AreAboveAscii}, Rules.{Text, InUtf8}}
use Rattle.iref_grammar.specs.Grammar.{colon, question_mark, hash_sign, IsScheme, IsPath, IsQuery, IsFragment, IsAuthority, IsUri, IsUriReference}
use Rattle.iref_grammar.specs.Texts.{before, after, begins_with, part_then, then_part}
use Rattle.iref_grammar.specs.{Tests.{none_or, is_scheme, is_query, is_fragment}, Authority.{is_authority}}
use Rattle.iref_grammar.specs.Reference.{split_scheme, split_authority, hierarchy, read_reference, is_reference, is_uri}
use Rattle.iref_grammar.specs.ComponentTexts.{ComponentTexts, AreComponents}
use Rattle.iref_grammar.proofs.ComponentLemmas.{Decides-AreComponents}
use Rattle.iref_grammar.proofs.PartRuleLemmas.{Decides-none_or, Decides-is_scheme_bytes}
use Rattle.iref_grammar.proofs.{LeafLemmas.{Decides-is_query, Decides-is_fragment}, PathTextLemmas.{Decides-is_path}}
use Rattle.iref_grammar.proofs.AuthorityRuleLemmas.{Decides-is_authority}
use Rattle.iref_grammar.proofs.ReferenceRuleLemmas.{Decides-is_uri, Decides-is_uri_reference}
use Rattle.iref_grammar.proofs.{OnlyLemmas.{scheme-back}, TextLemmas.{first_of_both, second_of_both}, CutLemmas.{cut}}
use Rattle.iref_fault.specs.Places.{PartRule, Scheme, Path, BarePath, Query, Fragment, rule_of, IsBarePath}
use Rattle.iref_fault.specs.Cut.{Piece, piece, piece_if, authority_pieces_if, cut_scheme, has_cut_scheme, pieces_of}
use Rattle.iref_fault.specs.FirstFault.{IsInRule, AreInRules}
use Rattle.iref_fault.proofs.{PartPlaceLemmas.{has_plain_start, colon_starts}, CutSliceLemmas.{utf8_before}}
use Rattle.iref_fault.proofs.CutPieceLemmas.{all_append, colon_first, colon_chars, plain_chars, bare_scheme, bare_authority, HasByteShape}
use Rattle.iref_fault.proofs.AuthorityFaultLemmas.{all_first, all_second, if_pieces, pieces_if, authority_pieces_are}

-- ---- the pieces, by the components of the cut

-- where the components begin
pub record Starts : Type 0 where
  pub authority : ℕ
  pub path : ℕ
  pub query : ℕ
  pub fragment : ℕ

abbrev pub path_rule : ComponentTexts → PartRule
path_rule s = if is_some s.scheme || is_some s.authority then Path else BarePath

abbrev pub listed : Starts → ComponentTexts → List Piece
listed at s =
    piece_if Scheme 0 s.scheme ++ authority_pieces_if at.authority s.authority ++ piece (path_rule s) at.path s.path
    ++ piece_if Query at.query s.query ++ piece_if Fragment at.fragment s.fragment

-- the cut's components, and those that are read
abbrev pub parts_from : Option Text × Text → Text → ComponentTexts
parts_from front text =
    let middle = split_authority front.1 in
    record { scheme = front.0; authority = middle.0; path = middle.1; query = after question_mark (before (hash_sign ∷ []) text); fragment = after hash_sign text }

pub starts_of : Text → Starts
starts_of text =
    let front = cut_scheme (hierarchy text) in
    let middle = split_authority front.1 in
    let scheme_len = length (part_then (colon ∷ []) front.0) in
    record { authority = scheme_len + 2; path = scheme_len + length (then_part (codes "//") middle.0); query = length (hierarchy text) + 1; fragment = length (before (hash_sign ∷ []) text) + 1 }

pub pieces_listed : (text : Text) → pieces_of text ≡ listed (starts_of text) (parts_from (cut_scheme (hierarchy text)) text)
unfolding pieces_of starts_of
pieces_listed text = refl

module _ (set : CharTests) (above : AreAboveAscii set) where
  -- the components are in their rules
  pub record AreRuled (s : ComponentTexts) : Type 0 where
    pub scheme : IfSome s.scheme (InUtf8 IsScheme)
    pub authority : IfSome s.authority (InUtf8 (IsAuthority set))
    pub path : InUtf8 (rule_of set (path_rule s)) s.path
    pub query : IfSome s.query (InUtf8 (IsQuery set))
    pub fragment : IfSome s.fragment (InUtf8 (IsFragment set))

  authority_if : (start : ℕ) (o : Option Text) → AreInRules set (authority_pieces_if start o) → IfSome o (InUtf8 (IsAuthority set))
  authority_if start None h = tt
  authority_if start (Some t) h = (authority_pieces_are set above start t).0 h

  if_authority : (start : ℕ) (o : Option Text) → IfSome o (InUtf8 (IsAuthority set)) → AreInRules set (authority_pieces_if start o)
  if_authority start None h = tt
  if_authority start (Some t) h = (authority_pieces_are set above start t).1 h

  listed_ruled : (at : Starts) (s : ComponentTexts) → AreInRules set (listed at s) → AreRuled s
  listed_ruled at s h =
      let a = piece_if Scheme 0 s.scheme in
      let b = authority_pieces_if at.authority s.authority in
      let c = piece (path_rule s) at.path s.path in
      let d = piece_if Query at.query s.query in
      let e = piece_if Fragment at.fragment s.fragment in
      let P = IsInRule set in
      let abcd = all_first P (((a ++ b) ++ c) ++ d) e h in
      let abc = all_first P ((a ++ b) ++ c) d abcd in
      let ab = all_first P (a ++ b) c abc in
      record {
        scheme = if_pieces set above Scheme 0 s.scheme (all_first P a b ab);
        authority = authority_if at.authority s.authority (all_second P a b ab);
        path = (all_second P (a ++ b) c abc).0;
        query = if_pieces set above Query at.query s.query (all_second P ((a ++ b) ++ c) d abcd);
        fragment = if_pieces set above Fragment at.fragment s.fragment (all_second P (((a ++ b) ++ c) ++ d) e h);
      }

  ruled_listed : (at : Starts) (s : ComponentTexts) → AreRuled s → AreInRules set (listed at s)
  ruled_listed at s h =
      let a = piece_if Scheme 0 s.scheme in
      let b = authority_pieces_if at.authority s.authority in
      let c = piece (path_rule s) at.path s.path in
      let d = piece_if Query at.query s.query in
      let e = piece_if Fragment at.fragment s.fragment in
      let P = IsInRule set in
      all_append P (((a ++ b) ++ c) ++ d) e
      (all_append P ((a ++ b) ++ c) d
      (all_append P (a ++ b) c
      (all_append P a b (pieces_if set above Scheme 0 s.scheme h.scheme) (if_authority at.authority s.authority h.authority))
      (h.path, tt))
      (pieces_if set above Query at.query s.query h.query))
      (pieces_if set above Fragment at.fragment s.fragment h.fragment)

  -- ---- components in their rules, as tests

  bare_is_path : (t : Text) → InUtf8 (IsBarePath set) t → InUtf8 (IsPath set) t
  bare_is_path t z = (z.0, z.1, z.2, z.3.0)

  ruled_path : (b : Bool) (t : Text) → InUtf8 (rule_of set (if b then Path else BarePath)) t → InUtf8 (IsPath set) t
  ruled_path true t z = z
  ruled_path false t z = bare_is_path t z

  ruled_tested : (s : ComponentTexts) → AreRuled s → AreComponents set s
  ruled_tested s h = record {
    scheme = (Decides-none_or is_scheme (InUtf8 IsScheme) Decides-is_scheme_bytes s.scheme).1 h.scheme;
    authority = (Decides-none_or (is_authority set) (InUtf8 (IsAuthority set)) (Decides-is_authority set above) s.authority).1 h.authority;
    path = (Decides-is_path set above s.path).1 (ruled_path (is_some s.scheme || is_some s.authority) s.path h.path);
    query = (Decides-none_or (is_query set) (InUtf8 (IsQuery set)) (Decides-is_query set above) s.query).1 h.query;
    fragment = (Decides-none_or (is_fragment set) (InUtf8 (IsFragment set)) (Decides-is_fragment set above) s.fragment).1 h.fragment;
  }

  -- where a path that stands without a scheme and an authority has the shape of one
  abbrev HasPlainPath : ComponentTexts → Type 0
  HasPlainPath s = (is_some s.scheme || is_some s.authority) ≡ false → has_plain_start (chars s.path) ≡ true

  path_ruled : (b : Bool) (t : Text) → (b ≡ false → has_plain_start (chars t) ≡ true) → InUtf8 (IsPath set) t → InUtf8 (rule_of set (if b then Path else BarePath)) t
  path_ruled true t p z = z
  path_ruled false t p z = (z.0, z.1, z.2, (z.3, ap has_plain_start (sym (chars-encodes z.0 z.1) ∙ ap chars z.2) ∙ p refl))

  tested_ruled : (s : ComponentTexts) → HasPlainPath s → AreComponents set s → AreRuled s
  tested_ruled s p h = record {
    scheme = (Decides-none_or is_scheme (InUtf8 IsScheme) Decides-is_scheme_bytes s.scheme).0 h.scheme;
    authority = (Decides-none_or (is_authority set) (InUtf8 (IsAuthority set)) (Decides-is_authority set above) s.authority).0 h.authority;
    path = path_ruled (is_some s.scheme || is_some s.authority) s.path p ((Decides-is_path set above s.path).0 h.path);
    query = (Decides-none_or (is_query set) (InUtf8 (IsQuery set)) (Decides-is_query set above) s.query).0 h.query;
    fragment = (Decides-none_or (is_fragment set) (InUtf8 (IsFragment set)) (Decides-is_fragment set above) s.fragment).0 h.fragment;
  }

  -- ---- the whole

  pub decides_parts : (text : Text) → Decides (is_reference set text) (AreComponents set (parts_from (split_scheme (hierarchy text)) text))
  unfolding read_reference
  decides_parts text = Decides-AreComponents set above text (parts_from (split_scheme (hierarchy text)) text) refl

  -- a `:` that stands first: no scheme, and a path with it
  no_slashes : (text : Text) → begins_with (colon ∷ []) text ≡ true → (split_authority text).0 ≡ None
  no_slashes text k = let z = colon_first text k in ap (λ t. (split_authority t).0) z.1

  colon_not_ruled : (text : Text) → begins_with (colon ∷ []) (hierarchy text) ≡ true → AreRuled (parts_from (cut_scheme (hierarchy text)) text) → ⊥
  colon_not_ruled text k h =
      let whole = hierarchy text in
      let none : (cut_scheme whole).0 ≡ None = ap (λ (b : Bool). let s : Option Text × Text = if b then (None, whole) else split_scheme whole in s.0) k in
      let same : (cut_scheme whole).1 ≡ whole = (bare_scheme whole none).0 in
      let no_authority : (split_authority (cut_scheme whole).1).0 ≡ None = ap (λ t. (split_authority t).0) same ∙ no_slashes whole k in
      let path : (split_authority (cut_scheme whole).1).1 ≡ whole = bare_authority (cut_scheme whole).1 no_authority ∙ same in
      let bare : InUtf8 (IsBarePath set) (split_authority (cut_scheme whole).1).1 =
      subst (λ (b : Bool). InUtf8 (rule_of set (if b then Path else BarePath)) (split_authority (cut_scheme whole).1).1) (λ i. is_some (none i) || is_some (no_authority i)) h.path in
      never whole k (subst (InUtf8 (IsBarePath set)) path bare)
    where
      never : (t : Text) → begins_with (colon ∷ []) t ≡ true → InUtf8 (IsBarePath set) t → ⊥
      never t k z =
          let u : IsUtf8 t = (z.0, (z.1, z.2)) in
          let plain : has_plain_start (chars t) ≡ true = ap has_plain_start (sym (ap chars z.2) ∙ chars-encodes z.0 z.1) ∙ z.3.1 in
          true≢false (sym plain ∙ (colon_starts (chars t) (colon_chars t u k)).0)

  pub colon_not_tested : (text : Text) → begins_with (colon ∷ []) (hierarchy text) ≡ true → AreComponents set (parts_from (split_scheme (hierarchy text)) text) → ⊥
  unfolding is_scheme
  colon_not_tested text k h =
      let z = colon_first (hierarchy text) k in
      let empty : split_scheme (hierarchy text) ≡ (Some [], z.0) = ap split_scheme z.1 ∙ scheme-back [] z.0 refl refl in
      true≢false (sym h.scheme ∙ ap (λ (s : Option Text × Text). none_or is_scheme s.0) empty)

  -- else the two cuts are one
  pub one_cut : (whole : Text) → begins_with (colon ∷ []) whole ≡ false → cut_scheme whole ≡ split_scheme whole
  one_cut whole k = λ i. if k i then (None, whole) else split_scheme whole

  plain_path : (text : Text) → IsUtf8 (hierarchy text) → begins_with (colon ∷ []) (hierarchy text) ≡ false → HasPlainPath (parts_from (cut_scheme (hierarchy text)) text)
  plain_path text u k = by (cut_scheme (hierarchy text)).0 refl (split_authority (cut_scheme (hierarchy text)).1).0 refl
    where
      by : (x : Option Text) → (cut_scheme (hierarchy text)).0 ≡ x → (y : Option Text) → (split_authority (cut_scheme (hierarchy text)).1).0 ≡ y
          → (is_some x || is_some y) ≡ false → has_plain_start (chars (split_authority (cut_scheme (hierarchy text)).1).1) ≡ true
      by (Some s) e y f b = absurd (true≢false b)
      by None e (Some a) f b = absurd (true≢false b)
      by None e None f b =
          let bare = bare_scheme (hierarchy text) e in
          let path : (split_authority (cut_scheme (hierarchy text)).1).1 ≡ hierarchy text = bare_authority (cut_scheme (hierarchy text)).1 f ∙ bare.0 in
          ap (λ t. has_plain_start (chars t)) path ∙ plain_chars (hierarchy text) u (plain bare.1)
        where
          plain : HasByteShape (hierarchy text) → has_plain_start (hierarchy text) ≡ true
          plain (inl h) = absurd (true≢false (sym h ∙ k))
          plain (inr h) = h

  hierarchy_utf8 : (text : Text) → IsUtf8 text → IsUtf8 (hierarchy text)
  hierarchy_utf8 text u =
      let body = before (hash_sign ∷ []) text in
      let first = utf8_before hash_sign body (after hash_sign text) text (lit< tt) (cut hash_sign text) u in
      (utf8_before question_mark (hierarchy text) (after question_mark body) body (lit< tt) (cut question_mark body) first.0).0

  ruled_is_tested : (text : Text) → IsUtf8 text → AreRuled (parts_from (cut_scheme (hierarchy text)) text) ↔ AreComponents set (parts_from (split_scheme (hierarchy text)) text)
  ruled_is_tested text u = by (begins_with (colon ∷ []) (hierarchy text)) refl
    where
      by : (b : Bool) → begins_with (colon ∷ []) (hierarchy text) ≡ b → AreRuled (parts_from (cut_scheme (hierarchy text)) text) ↔ AreComponents set (parts_from (split_scheme (hierarchy text)) text)
      by true k = (λ h. absurd (colon_not_ruled text k h), λ h. absurd (colon_not_tested text k h))
      by false k =
          let one = one_cut (hierarchy text) k in
          subst (λ (front : Option Text × Text). AreRuled (parts_from (cut_scheme (hierarchy text)) text) ↔ AreComponents set (parts_from front text)) one
          (ruled_tested (parts_from (cut_scheme (hierarchy text)) text), tested_ruled (parts_from (cut_scheme (hierarchy text)) text) (plain_path text (hierarchy_utf8 text u) k))

  pieces_are_tested : (text : Text) → IsUtf8 text → AreInRules set (pieces_of text) ↔ (is_reference set text ≡ true)
  pieces_are_tested text u =
      let t = ruled_is_tested text u in
      let d = decides_parts text in
      let s = parts_from (cut_scheme (hierarchy text)) text in (
        λ h. d.1 (t.0 (listed_ruled (starts_of text) s (subst (AreInRules set) (pieces_listed text) h))),
        λ h. subst (AreInRules set) (sym (pieces_listed text)) (ruled_listed (starts_of text) s (t.1 (d.0 h))),
      )

  pub reference_pieces_are : (text : Text) → IsUtf8 text → AreInRules set (pieces_of text) ↔ InUtf8 (IsUriReference set) text
  reference_pieces_are text u =
      let t = pieces_are_tested text u in
      let d = Decides-is_uri_reference set above text in
      (λ h. d.0 (t.0 h), λ h. t.1 (d.1 h))

  -- ---- URIs

  pub uri_pieces_are : (text : Text) → IsUtf8 text → ((has_cut_scheme text ≡ true) × AreInRules set (pieces_of text)) ↔ InUtf8 (IsUri set) text
  unfolding is_uri
  uri_pieces_are text u = by (begins_with (colon ∷ []) (hierarchy text)) refl
    where
      d : Decides (is_uri set text) (InUtf8 (IsUri set) text)
      d = Decides-is_uri set above text

      by : (b : Bool) → begins_with (colon ∷ []) (hierarchy text) ≡ b → ((has_cut_scheme text ≡ true) × AreInRules set (pieces_of text)) ↔ InUtf8 (IsUri set) text
      by true k = (
        λ h. absurd (true≢false (sym h.0 ∙ ap (λ (b : Bool). let s : Option Text × Text = if b then (None, hierarchy text) else split_scheme (hierarchy text) in is_some s.0) k)),
        λ z. absurd (colon_not_tested text k ((decides_parts text).0 (second_of_both (is_some (split_scheme (hierarchy text)).0) (is_reference set text) (d.1 z)))),
      )
      by false k =
          let one : has_cut_scheme text ≡ is_some (split_scheme (hierarchy text)).0 = ap (λ (s : Option Text × Text). is_some s.0) (one_cut (hierarchy text) k) in
          let t = pieces_are_tested text u in (
            λ h. d.0 (and_from (is_some (split_scheme (hierarchy text)).0) (is_reference set text) (sym one ∙ h.0) (t.0 h.1)),
            λ z.
                let both = d.1 z in
                (one ∙ first_of_both (is_some (split_scheme (hierarchy text)).0) (is_reference set text) both, t.1 (second_of_both (is_some (split_scheme (hierarchy text)).0) (is_reference set text) both)),
          )

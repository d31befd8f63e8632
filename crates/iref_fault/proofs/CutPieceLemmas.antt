-- The pieces of a text are slices of it, and have the shape of their rules.
use Rattle.std.proofs.Common.{arith, ◌≡◌, ℕ, ◌+◌, ◌<◌, Bool, true, false, List, [], ◌∷◌, ◌++◌, ◌⊎◌, inl, inr, refl, sym, ◌∙◌, ap, subst, length, drop, append_assoc, length-append, lit<, ◌==◌, ◌&&◌, ◌||◌, codes, Option, Some, None, IfSome, is_some, chars, if◌then◌else◌, true≢false}
use Rattle.std.proofs.{lemmas.Grind.{common_steps}, lemmas.Bool.Decides.{eqb_tells}, lemmas.List.{append-nil}}
use Rattle.std.proofs.lemmas.Str.{chars-nil, encode_ascii, encodes-chars, chars-append, chars_past_char}
use Rattle.std.specs.{Str.{IsUtf8}, Char.{char_set_contains}, List.{AllByRecursion}}
use Rattle.iref_grammar.specs.{Characters.{CharTests, AreAboveAscii}, Rules.{Text}}
use Rattle.iref_grammar.specs.Grammar.{hash_sign, slash, colon, question_mark, at_sign, left_bracket, right_bracket}
use Rattle.iref_grammar.specs.Texts.{before, after, from_first, begins_with, lacks, part_then, then_part}
use Rattle.iref_grammar.specs.Reference.{split_scheme, split_authority, scheme_of, hierarchy}
use Rattle.iref_grammar.proofs.CutLemmas.{cut, before-from_first, before-yes, before-no, before-part, first_lacks, rest_lacks}
use Rattle.iref_grammar.proofs.{HostLemmas.{before_lacks}, SegmentRuleLemmas.{lacks-decoded}}
use Rattle.iref_grammar.proofs.{SliceLemmas.{mark_boundary}, ReferenceCutLemmas.{split_scheme-joins}}
use Rattle.iref_fault.specs.Places.{PartRule, Scheme, UserInfo, Host, Port, Path, BarePath, Query, Fragment, is_bare}
use Rattle.iref_fault.specs.Cut.{Piece, piece, piece_if, bracket_host, bracket_port, cut_host, cut_port, host_pieces, authority_pieces, authority_pieces_if, cut_scheme, pieces_of}
use Rattle.iref_fault.proofs.CutSliceLemmas.{IsSlice, whole_slice, utf8_seam, utf8_before, first_slice, second_slice, slice_after, slice_before, slice_behind}
use Rattle.iref_fault.proofs.PartPlaceLemmas.{HasShape, HasBareShape, any_shape, has_plain_start, plain_rest, plain_more, colon_starts}
use Rattle.iref_fault.proofs.PieceLemmas.{IsSound, AreSound}

-- ---- what the cuts join

bracket_joins : (text : Text) → bracket_host text ++ then_part (colon ∷ []) (bracket_port text) ≡ text
bracket_joins [] = refl
bracket_joins (c ∷ cs) = ap (λ t. c ∷ t) (by (char_set_contains cs right_bracket) (c == right_bracket) (bracket_joins cs))
  where
    by : (b d : Bool) → bracket_host cs ++ then_part (colon ∷ []) (bracket_port cs) ≡ cs
        → (if b then bracket_host cs else (if d then before (colon ∷ []) cs else cs)) ++ then_part (colon ∷ []) (if b then bracket_port cs else (if d then after colon cs else None)) ≡ cs
    by true d e = e
    by false true e = cut colon cs
    by false false e = append-nil cs

pub host_joins : (text : Text) → cut_host text ++ then_part (colon ∷ []) (cut_port text) ≡ text
host_joins text = by (begins_with (left_bracket ∷ []) text)
  where
    by : (b : Bool) → (if b then bracket_host text else before (colon ∷ []) text) ++ then_part (colon ∷ []) (if b then bracket_port text else after colon text) ≡ text
    by true = bracket_joins text
    by false = cut colon text

pub cut_scheme_joins : (text : Text) → part_then (colon ∷ []) (cut_scheme text).0 ++ (cut_scheme text).1 ≡ text
cut_scheme_joins text = by (begins_with (colon ∷ []) text)
  where
    by : (b : Bool) → let s : Option Text × Text = if b then (None, text) else split_scheme text in part_then (colon ∷ []) s.0 ++ s.1 ≡ text
    by true = refl
    by false = split_scheme-joins text

-- ---- bytes and characters

lacks_chars : (mark : ℕ) (text : Text) → mark < 128 → IsUtf8 text → lacks mark text ≡ true → lacks mark (chars text) ≡ true
lacks_chars mark text m u h = lacks-decoded mark (chars text) m (ap (lacks mark) (encodes-chars text u) ∙ h)

chars_mark : (mark : ℕ) (rest : Text) → mark < 128 → IsUtf8 (mark ∷ rest) → chars (mark ∷ rest) ≡ mark ∷ chars rest
chars_mark mark rest m u = chars_past_char (mark ∷ rest) rest mark u (ap (λ t. t ++ rest) (sym (encode_ascii mark m)))

chars_then_part : (mark : ℕ) (o : Option Text) → mark < 128 → IsUtf8 (then_part (mark ∷ []) o) → (p : Option Text) × (chars (then_part (mark ∷ []) o) ≡ then_part (mark ∷ []) p)
chars_then_part mark None m u = (None, chars-nil)
chars_then_part mark (Some rest) m u = (Some (chars rest), chars_mark mark rest m u)

-- the characters before the first delimiter are those of the bytes before it
pub before_chars : (mark : ℕ) (text : Text) → mark < 128 → IsUtf8 text → before (mark ∷ []) (chars text) ≡ chars (before (mark ∷ []) text)
before_chars mark text m u =
    let front = before (mark ∷ []) text in
    let back = after mark text in
    let parts = utf8_before mark front back text m (cut mark text) u in
    let p = chars_then_part mark back m parts.1 in
    ap (before (mark ∷ [])) (ap chars (sym (cut mark text)) ∙ chars-append front (then_part (mark ∷ []) back) parts.0 ∙ ap (λ t. chars front ++ t) p.1)
    ∙ before-part mark (chars front) p.0 (lacks_chars mark front m parts.0 (before_lacks mark text))

-- ---- the shape of a path that stands without a scheme

-- of bytes: it begins with `:`, or its first segment holds none
abbrev pub HasByteShape : Text → Type 0
HasByteShape text = (begins_with (colon ∷ []) text ≡ true) ⊎ (has_plain_start text ≡ true)

pub colon_first : (text : Text) → begins_with (colon ∷ []) text ≡ true → (rest : Text) × (text ≡ colon ∷ rest)
colon_first [] h = absurd (true≢false (sym h))
colon_first (c ∷ cs) h = elim (eqb_tells colon c) [
  | inl e ↦ (cs, ap (λ d. d ∷ cs) (sym e.1))
  | inr e ↦ absurd (true≢false (sym h ∙ (λ i. e.0 i && true)))
]

pub plain_chars : (text : Text) → IsUtf8 text → has_plain_start text ≡ true → has_plain_start (chars text) ≡ true
plain_chars text u h =
    let parts = utf8_before slash (before (slash ∷ []) text) (after slash text) text (lit< tt) (cut slash text) u in
    ap (lacks colon) (before_chars slash text (lit< tt) u) ∙ lacks_chars colon (before (slash ∷ []) text) (lit< tt) parts.0 h

pub colon_chars : (text : Text) → IsUtf8 text → begins_with (colon ∷ []) text ≡ true → begins_with (colon ∷ []) (chars text) ≡ true
colon_chars text u h = let z = colon_first text h in ap (begins_with (colon ∷ [])) (ap chars z.1 ∙ chars_mark colon z.0 (lit< tt) (subst IsUtf8 z.1 u))

as_characters : (text : Text) → IsUtf8 text → HasByteShape text → HasBareShape (chars text)
as_characters text u (inl h) = inl (colon_chars text u h)
as_characters text u (inr h) = by (begins_with (colon ∷ []) (chars text)) refl (plain_chars text u h)
  where
    by : (b : Bool) → begins_with (colon ∷ []) (chars text) ≡ b → has_plain_start (chars text) ≡ true → HasBareShape (chars text)
    by true e k = absurd (true≢false (sym k ∙ (colon_starts (chars text) e).0))
    by false e k = inr (e, k)

-- a front that holds `/` and no `:`, whatever follows
plain_whole : (front rest : Text) → lacks colon front ≡ true → char_set_contains front slash ≡ true → has_plain_start (front ++ rest) ≡ true
plain_whole [] rest l h = absurd (true≢false (sym h))
plain_whole (c ∷ cs) rest l h = elim (eqb_tells c slash) [
  | inl e ↦ ap (lacks colon) (before-yes (slash ∷ []) c (cs ++ rest) (ap (char_set_contains (slash ∷ [])) e.1))
  | inr e ↦
      let no : char_set_contains (slash ∷ []) c ≡ false = elim (eqb_tells slash c) [ inl f ↦ absurd (e.1 (sym f.1)) | inr f ↦ λ i. f.0 i || false ] in
      let more : char_set_contains cs slash ≡ true = (λ i. sym e.0 i || char_set_contains cs slash) ∙ h in
      ap (lacks colon) (before-no (slash ∷ []) c (cs ++ rest) no) ∙ plain_more c (cs ++ rest) (first_lacks colon c cs l) (plain_whole cs rest (rest_lacks colon c cs l) more)
]

-- what has no scheme
pub bare_scheme : (text : Text) → (cut_scheme text).0 ≡ None → ((cut_scheme text).1 ≡ text) × HasByteShape text
bare_scheme text = by (begins_with (colon ∷ []) text) refl
  where
    of_slash : (rest : Text) (d : Bool) → char_set_contains (before (colon ∷ []) text) slash ≡ d → before (colon ∷ []) text ++ colon ∷ rest ≡ text
        → let s : Option Text × Text = if d then (None, text) else (Some (before (colon ∷ []) text), rest) in s.0 ≡ None → (s.1 ≡ text) × HasByteShape text
    of_slash rest true k f e = (refl, inr (ap has_plain_start (sym f) ∙ plain_whole (before (colon ∷ []) text) (colon ∷ rest) (before_lacks colon text) k))
    of_slash rest false k f e = absurd (true≢false (ap is_some e))

    of_rest : (o : Option Text) → before (colon ∷ []) text ++ then_part (colon ∷ []) o ≡ text
        → let s = scheme_of (before (colon ∷ []) text) o text in s.0 ≡ None → (s.1 ≡ text) × HasByteShape text
    of_rest None f e = (refl, inr (plain_rest text (subst (λ t. lacks colon t ≡ true) (sym (append-nil (before (colon ∷ []) text)) ∙ f) (before_lacks colon text))))
    of_rest (Some rest) f e = of_slash rest (char_set_contains (before (colon ∷ []) text) slash) refl f e

    by : (b : Bool) → begins_with (colon ∷ []) text ≡ b
        → let s : Option Text × Text = if b then (None, text) else split_scheme text in s.0 ≡ None → (s.1 ≡ text) × HasByteShape text
    by true k e = (refl, inl k)
    by false k e = of_rest (after colon text) (cut colon text) e

-- and what has neither a scheme nor an authority
pub bare_authority : (text : Text) → (split_authority text).0 ≡ None → (split_authority text).1 ≡ text
bare_authority text e = by (begins_with (codes "//") text) e
  where
    by : (b : Bool) → let s : Option Text × Text = if b then (Some (before (slash ∷ []) (drop 2 text)), from_first (slash ∷ []) (drop 2 text)) else (None, text) in s.0 ≡ None → s.1 ≡ text
    by true e = absurd (true≢false (ap is_some e))
    by false e = refl

-- ---- the pieces are slices

slices_as : (text : Text) (m n : ℕ) (o : Option Text) → m ≡ n → IfSome o (IsSlice text m) → IfSome o (IsSlice text n)
slices_as text m n o e s = subst (λ k. IfSome o (IsSlice text k)) e s

double_slash : (text : Text) → begins_with (codes "//") text ≡ true → slash ∷ slash ∷ drop 2 text ≡ text
double_slash text h = grind (arith, common_steps)

-- the scheme and what follows it
scheme_slices : (text whole : Text) (o : Option Text) (rest : Text) → part_then (colon ∷ []) o ++ rest ≡ whole → IsSlice text 0 whole → IfSome o (IsSlice text 0) × IsSlice text (length (part_then (colon ∷ []) o)) rest
scheme_slices text whole None rest e s = (tt, subst (IsSlice text 0) (sym e) s)
scheme_slices text whole (Some scheme) rest e s =
    let joined : scheme ++ then_part (colon ∷ []) (Some rest) ≡ whole = sym (append_assoc scheme (colon ∷ []) rest) ∙ e in
    let long : 0 + length scheme + 1 ≡ length (scheme ++ colon ∷ []) = omega (arith, length-append scheme (colon ∷ [])) in
    (slice_before text 0 whole colon scheme (Some rest) (lit< tt) s joined, subst (λ k. IsSlice text k rest) long (slice_behind text 0 whole colon scheme (Some rest) (lit< tt) s joined))

-- the authority and what follows it
authority_slices : (text : Text) (start : ℕ) (whole : Text) → IsSlice text start whole
    → IfSome (split_authority whole).0 (IsSlice text (start + 2)) × IsSlice text (start + length (then_part (codes "//") (split_authority whole).0)) (split_authority whole).1
authority_slices text start whole s = by (begins_with (codes "//") whole) refl
  where
    by : (b : Bool) → begins_with (codes "//") whole ≡ b
        → let p : Option Text × Text = if b then (Some (before (slash ∷ []) (drop 2 whole)), from_first (slash ∷ []) (drop 2 whole)) else (None, whole) in
        IfSome p.0 (IsSlice text (start + 2)) × IsSlice text (start + length (then_part (codes "//") p.0)) p.1
    by false e = (tt, subst (λ k. IsSlice text k whole) (omega arith) s)
    by true e =
        let rest = drop 2 whole in
        let front = before (slash ∷ []) rest in
        let back = from_first (slash ∷ []) rest in
        let one = slice_after text start slash (slash ∷ rest) (lit< tt) (subst (IsSlice text start) (sym (double_slash whole e)) s) in
        let two = slice_after text (start + 1) slash rest (lit< tt) one in
        let parts = utf8_seam front back rest (before-from_first (slash ∷ []) rest) two.utf8 (mark_boundary slash front (after slash rest) rest (lit< tt) (cut slash rest)) in
        let far : start + 1 + 1 ≡ start + 2 = omega arith in
        let further : start + 1 + 1 + length front ≡ start + length (codes "//" ++ front) = omega arith in (
          subst (λ k. IsSlice text k front) far (first_slice text (start + 1 + 1) rest front back two (before-from_first (slash ∷ []) rest) parts.0 parts.1),
          subst (λ k. IsSlice text k back) further (second_slice text (start + 1 + 1) rest front back two (before-from_first (slash ∷ []) rest) parts.1),
        )

-- ---- and sound

pub all_append : {A : Type 0} (P : A → Type 0) (xs ys : List A) → AllByRecursion P xs → AllByRecursion P ys → AllByRecursion P (xs ++ ys)
all_append P [] ys h k = k
all_append P (x ∷ xs) ys h k = (h.0, all_append P xs ys h.1 k)

module _ (set : CharTests) (above : AreAboveAscii set) (text : Text) where
  abbrev AreGood : List Piece → Type 0
  AreGood ps = AreSound set above text ps

  one_sound : (rule : PartRule) (start : ℕ) (t : Text) → is_bare rule ≡ false → IsSlice text start t → AreGood (piece rule start t)
  one_sound rule start t h s = (record { slice = s; shape = any_shape rule (chars t) h }, tt)

  if_sound : (rule : PartRule) (start : ℕ) (o : Option Text) → is_bare rule ≡ false → IfSome o (IsSlice text start) → AreGood (piece_if rule start o)
  if_sound rule start None h s = tt
  if_sound rule start (Some t) h s = one_sound rule start t h s

  host_sound : (start : ℕ) (t : Text) → IsSlice text start t → AreGood (host_pieces start t)
  host_sound start t s =
      let host = cut_host t in
      all_append (IsSound set above text) (piece Host start host) (piece_if Port (start + length host + 1) (cut_port t))
      (one_sound Host start host refl (slice_before text start t colon host (cut_port t) (lit< tt) s (host_joins t)))
      (if_sound Port (start + length host + 1) (cut_port t) refl (slice_behind text start t colon host (cut_port t) (lit< tt) s (host_joins t)))

  pub authority_sound : (start : ℕ) (t : Text) → IsSlice text start t → AreGood (authority_pieces start t)
  unfolding authority_pieces
  authority_sound start t s = by (after at_sign t) (cut at_sign t)
    where
      by : (o : Option Text) → before (at_sign ∷ []) t ++ then_part (at_sign ∷ []) o ≡ t
          → AreGood (elim o as (λ p. List Piece) [
            | None ↦ host_pieces start t
            | Some rest ↦ piece UserInfo start (before (at_sign ∷ []) t) ++ host_pieces (start + length (before (at_sign ∷ []) t) + 1) rest
          ])
      by None e = host_sound start t s
      by (Some rest) e =
          let user = before (at_sign ∷ []) t in
          all_append (IsSound set above text) (piece UserInfo start user) (host_pieces (start + length user + 1) rest)
          (one_sound UserInfo start user refl (slice_before text start t at_sign user (Some rest) (lit< tt) s e))
          (host_sound (start + length user + 1) rest (slice_behind text start t at_sign user (Some rest) (lit< tt) s e))

  authority_if_sound : (start : ℕ) (o : Option Text) → IfSome o (IsSlice text start) → AreGood (authority_pieces_if start o)
  authority_if_sound start None s = tt
  authority_if_sound start (Some t) s = authority_sound start t s

  path_sound : (whole : Text) (start : ℕ) → let front = cut_scheme whole in let middle = split_authority front.1 in
      IsSlice text start middle.1 → AreGood (piece (if is_some front.0 || is_some middle.0 then Path else BarePath) start middle.1)
  path_sound whole start s = (record { slice = s; shape = by (cut_scheme whole).0 refl (split_authority (cut_scheme whole).1).0 refl }, tt)
    where
      by : (x : Option Text) → (cut_scheme whole).0 ≡ x → (y : Option Text) → (split_authority (cut_scheme whole).1).0 ≡ y
          → HasShape (if is_some x || is_some y then Path else BarePath) (chars (split_authority (cut_scheme whole).1).1)
      by (Some scheme) e y f = any_shape Path (chars (split_authority (cut_scheme whole).1).1) refl
      by None e (Some authority) f = any_shape Path (chars (split_authority (cut_scheme whole).1).1) refl
      by None e None f =
          let bare = bare_scheme whole e in
          let same : (split_authority (cut_scheme whole).1).1 ≡ whole = bare_authority (cut_scheme whole).1 f ∙ bare.0 in
          λ b. as_characters (split_authority (cut_scheme whole).1).1 s.utf8 (subst HasByteShape (sym same) bare.1)

  -- what stands before the query
  front_sound : (whole : Text) → IsSlice text 0 whole → let front = cut_scheme whole in let middle = split_authority front.1 in let scheme_len = length (part_then (colon ∷ []) front.0) in
      AreGood (piece_if Scheme 0 front.0 ++ authority_pieces_if (scheme_len + 2) middle.0
      ++ piece (if is_some front.0 || is_some middle.0 then Path else BarePath) (scheme_len + length (then_part (codes "//") middle.0)) middle.1)
  front_sound whole s =
      let front = cut_scheme whole in
      let middle = split_authority front.1 in
      let scheme_len = length (part_then (colon ∷ []) front.0) in
      let first = scheme_slices text whole front.0 front.1 (cut_scheme_joins whole) s in
      let second = authority_slices text scheme_len front.1 first.1 in
      all_append (IsSound set above text) (piece_if Scheme 0 front.0 ++ authority_pieces_if (scheme_len + 2) middle.0) _
      (all_append (IsSound set above text) (piece_if Scheme 0 front.0) (authority_pieces_if (scheme_len + 2) middle.0)
      (if_sound Scheme 0 front.0 refl first.0)
      (authority_if_sound (scheme_len + 2) middle.0 second.0))
      (path_sound whole (scheme_len + length (then_part (codes "//") middle.0)) second.1)

  pub pieces_sound : IsUtf8 text → AreGood (pieces_of text)
  unfolding pieces_of
  pieces_sound u =
      let body = before (hash_sign ∷ []) text in
      let query = after question_mark body in
      let fragment = after hash_sign text in
      let all = whole_slice text u in
      let first = slice_before text 0 text hash_sign body fragment (lit< tt) all (cut hash_sign text) in
      let second = slice_before text 0 body question_mark (hierarchy text) query (lit< tt) first (cut question_mark body) in
      let in_query = slices_as text (0 + length (hierarchy text) + 1) (length (hierarchy text) + 1) query (omega arith) (slice_behind text 0 body question_mark (hierarchy text) query (lit< tt) first (cut question_mark body)) in
      let in_fragment = slices_as text (0 + length body + 1) (length body + 1) fragment (omega arith) (slice_behind text 0 text hash_sign body fragment (lit< tt) all (cut hash_sign text)) in
      all_append (IsSound set above text) _ (piece_if Fragment (length body + 1) fragment)
      (all_append (IsSound set above text) _ (piece_if Query (length (hierarchy text) + 1) query)
      (front_sound (hierarchy text) second)
      (if_sound Query (length (hierarchy text) + 1) query refl in_query))
      (if_sound Fragment (length body + 1) fragment refl in_fragment)

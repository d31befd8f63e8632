-- Texts of characters and escapes: steps over their front, and cuts at delimiters.
use Rattle.std.proofs.Common.{◌≡◌, ℕ, ◌+◌, ◌-◌, ◌<◌, ◌≤◌, zero, suc, Bool, true, false, not, ◌&&◌, List, [], ◌∷◌, ◌++◌, length, take, drop, get_or, length-append, chars, IsUtf8, refl, sym, ap, subst, ◌∙◌, arith, inl, inr, ⊎_elim, ◌==◌, Option, Some, None, nat_lt, encode_utf8_all, if◌then◌else◌, true≢false}
use Rattle.std.proofs.{Math.Bool.{and-true}, Math.Utf8.{scalar, low_scalar, encode}}
use Rattle.std.proofs.lemmas.Bool.{and_parts, and_from, cases_lt, false_from_ne_true}
use Rattle.std.proofs.lemmas.Bool.Decides.{eqb_tells, nat_tests}
use Rattle.std.proofs.lemmas.List.{get_or-take, length-drop, take-append-drop, take_all}
use Rattle.std.proofs.lemmas.List.Sums.{list_all-from_AllPass, prefix_len-le-length, prefix_len_passes}
use Rattle.std.proofs.lemmas.List.Folds.{length-prefix_len}
use Rattle.std.proofs.lemmas.Str.{encode_ascii, length-encode, len_utf8_bounds, chars_from_encodes, encodes-chars, scalars-chars, is_utf8-from_IsUtf8, IsUtf8-from_is_utf8, IsUtf8-drop, IsUtf8-past_char, IsCharBoundary-after_ascii}
use Rattle.std.specs.{List.{list_all, prefix_len}, Str.{all_scalars, IsCharBoundary}}
use Rattle.std.specs.Char.{is_ascii_hexdigit, char_set_contains}
use Rattle.iref_grammar.specs.{Grammar.{percent_sign}, Rules.{Text, InUtf8}}
use Rattle.iref_grammar.specs.{Tests.{owed_after, is_encoded_after, is_encoded}, Texts.{before, from_first}}
use Rattle.iref_grammar.proofs.CutLemmas.{before-no, before-yes, before-from_first, from_first-no, from_first-yes}
use Rattle.iref_grammar.proofs.{Utf8RuleLemmas.{scalars-split}, EncodedLemmas.{by_char, by_digit, by_percent, if_taken}}
use Rattle.iref_parse.specs.Encoded.{are_encoded, but, StepsTo, BeginsWide}
use Rattle.iref_parse.proofs.{ScanLemmas.{chars-ascii}, WideLemmas.{are_high, encode_high}}

-- ---- the characters of a text

abbrev Spelled : (ℕ → Bool) → Text → Type 0
Spelled test = InUtf8 (λ cs. is_encoded test cs ≡ true)

spelled_from : (test : ℕ → Bool) (text : Text) → are_encoded test text ≡ true → Spelled test text
spelled_from test text h =
    let parts = and_parts _ _ h in
    let u = IsUtf8-from_is_utf8 text parts.0 in
    (chars text, scalars-chars text u, encodes-chars text u, parts.1)

encoded_from : (test : ℕ → Bool) (text : Text) → Spelled test text → are_encoded test text ≡ true
encoded_from test text s =
    let u : IsUtf8 text = (s.0, (s.1, s.2)) in
    and_from _ _ (is_utf8-from_IsUtf8 text u) (ap (is_encoded test) (sym (chars_from_encodes s.0 text u s.2)) ∙ s.3)

-- one character more in front
spelled_more : (test : ℕ → Bool) (c : ℕ) (rest : Text) → scalar c ≡ true → (c == percent_sign) ≡ false → test c ≡ true → Spelled test rest → Spelled test (encode c ++ rest)
spelled_more test c rest s e h more =
    (c ∷ more.0, and_from _ _ s more.1, ap (λ t. encode c ++ t) more.2, ap (λ o. is_encoded_after test o more.0) (by_char test c e ∙ ap (λ b. if b then Some 0 else None) h) ∙ more.3)

spelled_ascii : (test : ℕ → Bool) (c : ℕ) (rest : Text) → c < 128 → (c == percent_sign) ≡ false → test c ≡ true → Spelled test rest → Spelled test (c ∷ rest)
spelled_ascii test c rest low e h more = subst (λ t. Spelled test (t ++ rest)) (encode_ascii c low) (spelled_more test c rest (low_scalar c (omega arith)) e h more)

-- ---- steps over the front

pub encoded_nothing : (test : ℕ → Bool) (text : Text) → length text ≡ 0 → are_encoded test text ≡ true
encoded_nothing test [] e = encoded_from test [] ([], refl, refl, refl)
encoded_nothing test (c ∷ cs) e = absurd (omega (arith, e))

front_passes : (p : ℕ → Bool) (text : Text) → list_all p (take (prefix_len p text) text) ≡ true
front_passes p text =
    let n = prefix_len p text in
    let size = length-prefix_len p text in
    list_all-from_AllPass p (take n text) (λ k d l. ap p (get_or-take n text k d (omega arith)) ∙ prefix_len_passes p text k d (omega arith))

module _ (test : ℕ → Bool) where
  plain_spelled : (p : ℕ → Bool) → ((c : ℕ) → p c ≡ true → (c < 128) × ((c == percent_sign) ≡ false) × (test c ≡ true)) → (front rest : Text) → list_all p front ≡ true → Spelled test rest → Spelled test (front ++ rest)
  plain_spelled p f [] rest h more = more
  plain_spelled p f (c ∷ cs) rest h more =
      let parts = and_parts (p c) (list_all p cs) h in
      let one = f c parts.0 in
      spelled_ascii test c (cs ++ rest) one.0 one.1 one.2 (plain_spelled p f cs rest parts.1 more)

  after_plain_bytes : (p : ℕ → Bool) → ((c : ℕ) → p c ≡ true → (c < 128) × ((c == percent_sign) ≡ false) × (test c ≡ true)) → (front rest : Text) → list_all p front ≡ true
      → are_encoded test rest ≡ true → are_encoded test (front ++ rest) ≡ true
  after_plain_bytes p f front rest h k = encoded_from test (front ++ rest) (plain_spelled p f front rest h (spelled_from test rest k))

  -- the front that passes p
  pub front_step : (p : ℕ → Bool) → ((c : ℕ) → p c ≡ true → (c < 128) × ((c == percent_sign) ≡ false) × (test c ≡ true)) → (text : Text) → 0 < prefix_len p text → StepsTo test text (drop (prefix_len p text) text)
  front_step p f text some =
      let n = prefix_len p text in
      let bound = prefix_len-le-length p text in
      let last = (f _ (prefix_len_passes p text (n - 1) 0 (omega arith))).0 in
      let next : n - 1 + 1 ≡ n = omega arith in
      record {
        encoded = λ k. subst (λ t. are_encoded test t ≡ true) (take-append-drop n text) (after_plain_bytes p f (take n text) (drop n text) (front_passes p text) k);
        utf8 = λ u. IsUtf8-drop text n u (subst (IsCharBoundary text) next (IsCharBoundary-after_ascii text (n - 1) u (omega arith) last));
        shorter = omega (arith, some, bound, length-drop n text);
      }

  -- the first character
  pub char_step : (c : ℕ) (text rest : Text) → text ≡ encode c ++ rest → scalar c ≡ true → (c == percent_sign) ≡ false → test c ≡ true → StepsTo test text rest
  char_step c text rest e s other h = record {
    encoded = λ k. ap (are_encoded test) e ∙ encoded_from test (encode c ++ rest) (spelled_more test c rest s other h (spelled_from test rest k));
    utf8 = λ u. IsUtf8-past_char text rest c u e;
    shorter = omega (arith, ap length e, length-append (encode c) rest, length-encode c, len_utf8_bounds c);
  }

  pub wide_step : (code : ℕ) (text rest : Text) → BeginsWide code text rest → scalar code ≡ true → test code ≡ true → StepsTo test text rest
  wide_step code text rest b s h =
      let wide = b.wide in
      char_step code text rest b.spelled s (grind (arith, nat_tests)) h

  digit_low : (c : ℕ) → is_ascii_hexdigit c ≡ true → c < 128
  digit_low c h = grind (arith, nat_tests)

  after_escaped_byte : (high low : ℕ) (rest : Text) → is_ascii_hexdigit high ≡ true → is_ascii_hexdigit low ≡ true → are_encoded test rest ≡ true → are_encoded test (percent_sign ∷ high ∷ low ∷ rest) ≡ true
  after_escaped_byte high low rest p q k =
      let more = spelled_from test rest k in
      let a = digit_low high p in
      let b = digit_low low q in
      let step : is_encoded_after test (Some 0) (percent_sign ∷ high ∷ low ∷ more.0) ≡ is_encoded_after test (Some 0) more.0 =
      ap (λ o. is_encoded_after test o (high ∷ low ∷ more.0)) (by_percent test percent_sign refl)
      ∙ ap (λ o. is_encoded_after test o (low ∷ more.0)) (by_digit test 1 high ∙ ap (λ d. if d then Some 1 else None) p)
      ∙ ap (λ o. is_encoded_after test o more.0) (by_digit test 0 low ∙ ap (λ d. if d then Some 0 else None) q) in
      encoded_from test (percent_sign ∷ high ∷ low ∷ rest) (
        percent_sign ∷ high ∷ low ∷ more.0,
        and_from _ _ (low_scalar percent_sign (omega arith)) (and_from _ _ (low_scalar high (omega arith)) (and_from _ _ (low_scalar low (omega arith)) more.1)),
        (λ i. encode_ascii percent_sign (omega arith) i ++ (encode_ascii high a i ++ (encode_ascii low b i ++ more.2 i))),
        step ∙ more.3,
      )

  pub escape_step : (text : Text) → 3 ≤ length text → get_or text 0 0 ≡ percent_sign → is_ascii_hexdigit (get_or text 1 0) ≡ true → is_ascii_hexdigit (get_or text 2 0) ≡ true
      → StepsTo test text (take (length text - 3) (drop 3 text))
  escape_step [] l e p q = absurd (omega arith)
  escape_step (a ∷ []) l e p q = absurd (omega arith)
  escape_step (a ∷ b ∷ []) l e p q = absurd (omega arith)
  escape_step (a ∷ b ∷ c ∷ rest) l e p q =
      let all : rest ≡ take (length (a ∷ b ∷ c ∷ rest) - 3) rest = sym (take_all _ rest (omega arith)) in
      subst (StepsTo test (a ∷ b ∷ c ∷ rest)) all (record {
        encoded = λ k. subst (λ d. are_encoded test (d ∷ b ∷ c ∷ rest) ≡ true) (sym e) (after_escaped_byte b c rest p q k);
        utf8 = λ u. IsUtf8-drop (a ∷ b ∷ c ∷ rest) 3 u (IsCharBoundary-after_ascii (a ∷ b ∷ c ∷ rest) 2 u (omega arith) (digit_low c q));
        shorter = omega arith;
      })

-- ---- more characters pass

module _ (p q : ℕ → Bool) (wider : (c : ℕ) → p c ≡ true → q c ≡ true) where
  passes_after : (owed : Option ℕ) (cs : Text) → is_encoded_after p owed cs ≡ true → is_encoded_after q owed cs ≡ true
  passes_after None cs h = h
  passes_after (Some n) [] h = h
  passes_after (Some (suc n)) (c ∷ cs) h =
      let t = if_taken p n (is_ascii_hexdigit c) cs (ap (λ o. is_encoded_after p o cs) (sym (by_digit p n c)) ∙ h) in
      ap (λ o. is_encoded_after q o cs) (by_digit q n c ∙ ap (λ b. if b then Some n else None) t.0) ∙ passes_after (Some n) cs t.1
  passes_after (Some zero) (c ∷ cs) h = elim (eqb_tells c percent_sign) [
    | inl e ↦ ap (λ o. is_encoded_after q o cs) (by_percent q c e.1) ∙ passes_after (Some 2) cs (ap (λ o. is_encoded_after p o cs) (sym (by_percent p c e.1)) ∙ h)
    | inr e ↦
        let t = if_taken p 0 (p c) cs (ap (λ o. is_encoded_after p o cs) (sym (by_char p c e.0)) ∙ h) in
        ap (λ o. is_encoded_after q o cs) (by_char q c e.0 ∙ ap (λ b. if b then Some 0 else None) (wider c t.0)) ∙ passes_after (Some 0) cs t.1
  ]

  pub encoded_wider : (text : Text) → are_encoded p text ≡ true → are_encoded q text ≡ true
  encoded_wider text h = let parts = and_parts _ _ h in and_from _ _ parts.0 (passes_after (Some 0) (chars text) parts.1)

-- ---- cuts

-- a delimiter is ASCII, and not in an escape
pub record IsDelimiter (c : ℕ) : Type 0 where
  pub low : c < 128
  pub no_percent : (c == percent_sign) ≡ false
  pub no_digit : is_ascii_hexdigit c ≡ false

module _ (marks : List ℕ) (each : (c : ℕ) → char_set_contains marks c ≡ true → IsDelimiter c) where
  module _ (test : ℕ → Bool) where
    same_owed : (owed c : ℕ) → char_set_contains marks c ≡ false → owed_after (but marks test) owed c ≡ owed_after test owed c
    unfolding owed_after
    same_owed owed c e =
        let kept : but marks test c ≡ test c = ap (λ b. test c && not b) e ∙ and-true (test c) in
        λ i. if nat_lt 0 owed then (if is_ascii_hexdigit c then Some (owed - 1) else None) else (if c == percent_sign then Some 2 else (if kept i then Some 0 else None))

    -- no digit is owed before a delimiter
    none_owed : (n c : ℕ) (cs : Text) → char_set_contains marks c ≡ true → is_encoded_after test (owed_after test n c) cs ≡ true → n ≡ 0
    none_owed zero c cs e h = refl
    none_owed (suc n) c cs e h =
        absurd (true≢false (sym h ∙ ap (λ o. is_encoded_after test o cs) (by_digit test n c ∙ ap (λ b. if b then Some n else None) ((each c e).no_digit))))

    cut_front : (owed : Option ℕ) (cs : Text) → is_encoded_after test owed cs ≡ true → is_encoded_after (but marks test) owed (before marks cs) ≡ true
    cut_front None cs h = absurd (true≢false (sym h))
    cut_front (Some n) [] h = h
    cut_front (Some n) (c ∷ cs) h = by (char_set_contains marks c) refl (cut_front (owed_after test n c) cs h)
      where
        by : (b : Bool) → char_set_contains marks c ≡ b → is_encoded_after (but marks test) (owed_after test n c) (before marks cs) ≡ true → is_encoded_after (but marks test) (Some n) (before marks (c ∷ cs)) ≡ true
        by true e rest = ap (is_encoded_after (but marks test) (Some n)) (before-yes marks c cs e) ∙ ap (λ k. k == 0) (none_owed n c cs e h)
        by false e rest = cc (before-no marks c cs e, same_owed n c e)

    cut_back : (owed : Option ℕ) (cs : Text) → is_encoded_after test owed cs ≡ true → is_encoded test (from_first marks cs) ≡ true
    cut_back None cs h = absurd (true≢false (sym h))
    cut_back (Some n) [] h = refl
    cut_back (Some n) (c ∷ cs) h = by (char_set_contains marks c) refl (cut_back (owed_after test n c) cs h)
      where
        by : (b : Bool) → char_set_contains marks c ≡ b → is_encoded test (from_first marks cs) ≡ true → is_encoded test (from_first marks (c ∷ cs)) ≡ true
        by true e rest = cc (from_first-yes marks c cs e, none_owed n c cs e h)
        by false e rest = cc (from_first-no marks c cs e)

  -- a byte beyond ASCII is no delimiter
  high_passes : (b : ℕ) → 128 ≤ b → char_set_contains marks b ≡ false
  high_passes b h = false_from_ne_true _ (λ e. let low = (each b e).low in omega arith)

  past_high : (front rest : Text) → are_high front ≡ true → (before marks (front ++ rest) ≡ front ++ before marks rest) × (from_first marks (front ++ rest) ≡ from_first marks rest)
  past_high [] rest h = (refl, refl)
  past_high (b ∷ bs) rest h =
      let parts = and_parts (not (nat_lt b 128)) (are_high bs) h in
      let no = high_passes b (grind (arith, nat_tests, parts.0)) in
      let more = past_high bs rest parts.1 in
      (before-no marks b (bs ++ rest) no ∙ ap (λ t. b ∷ t) more.0, from_first-no marks b (bs ++ rest) no ∙ more.1)

  -- a text is cut where its characters are
  cut_bytes : (cs : Text) → (before marks (encode_utf8_all cs) ≡ encode_utf8_all (before marks cs)) × (from_first marks (encode_utf8_all cs) ≡ encode_utf8_all (from_first marks cs))
  cut_bytes [] = (refl, refl)
  cut_bytes (c ∷ cs) = by (char_set_contains marks c) refl (cut_bytes cs)
    where
      more : Text
      more = encode_utf8_all cs

      by : (b : Bool) → char_set_contains marks c ≡ b → (before marks more ≡ encode_utf8_all (before marks cs)) × (from_first marks more ≡ encode_utf8_all (from_first marks cs))
          → (before marks (encode c ++ more) ≡ encode_utf8_all (before marks (c ∷ cs))) × (from_first marks (encode c ++ more) ≡ encode_utf8_all (from_first marks (c ∷ cs)))
      by true e rest =
          let one = encode_ascii c ((each c e).low) in
          (cc (one, before-yes marks c more e, before-yes marks c cs e), cc (one, from_first-yes marks c more e, from_first-yes marks c cs e))
      by false e rest =
          let past : (before marks (encode c ++ more) ≡ encode c ++ before marks more) × (from_first marks (encode c ++ more) ≡ from_first marks more) =
          ⊎_elim (λ low. let one = encode_ascii c low in (cc (one, before-no marks c more e), cc (one, from_first-no marks c more e))) (λ high. past_high (encode c) more (encode_high c high)) (cases_lt c 128) in
          (cc (past.0, rest.0, before-no marks c cs e), cc (past.1, rest.1, from_first-no marks c cs e))

  module _ (test : ℕ → Bool) (text : Text) (h : are_encoded test text ≡ true) where
    whole : Spelled test text
    whole = spelled_from test text h

    scalar_parts : (all_scalars (before marks whole.0) ≡ true) × (all_scalars (from_first marks whole.0) ≡ true)
    scalar_parts = scalars-split (before marks whole.0) (from_first marks whole.0) (ap all_scalars (before-from_first marks whole.0) ∙ whole.1)

    pub encoded_before : are_encoded (but marks test) (before marks text) ≡ true
    encoded_before =
        encoded_from (but marks test) (before marks text) (before marks whole.0, scalar_parts.0, sym (cut_bytes whole.0).0 ∙ ap (before marks) whole.2, cut_front test (Some 0) whole.0 whole.3)

    pub encoded_from_first : are_encoded test (from_first marks text) ≡ true
    encoded_from_first =
        encoded_from test (from_first marks text) (from_first marks whole.0, scalar_parts.1, sym (cut_bytes whole.0).1 ∙ ap (from_first marks) whole.2, cut_back test (Some 0) whole.0 whole.3)

-- what follows a delimiter in front
pub encoded_past_one : (test : ℕ → Bool) (c : ℕ) (rest : Text) → IsDelimiter c → are_encoded test (c ∷ rest) ≡ true → are_encoded test rest ≡ true
encoded_past_one test c rest d h =
    let parts = and_parts _ _ h in
    let low = d.low in
    let u = IsUtf8-from_is_utf8 (c ∷ rest) parts.0 in
    let shown = chars-ascii (c ∷ rest) u (omega arith) low in
    let past = if_taken test 0 (test c) (chars rest) (ap (λ o. is_encoded_after test o (chars rest)) (sym (by_char test c d.no_percent)) ∙ sym (ap (is_encoded test) shown) ∙ parts.1) in
    and_from _ _ (is_utf8-from_IsUtf8 rest (IsUtf8-drop (c ∷ rest) 1 u (IsCharBoundary-after_ascii (c ∷ rest) 0 u (omega arith) low))) past.1

-- The common characters, U+00C0 to U+D7FF, and the front of plain bytes and such characters that a text of UTF-8 has.
use Rattle.std.proofs.Common.{◌≡◌, ℕ, ◌+◌, ◌<◌, ◌≤◌, suc, Bool, true, false, cond, List, [], ◌∷◌, ◌++◌, length, drop, get_or, IsUtf8, refl, sym, ap, subst, ◌∙◌, arith, ⊎_elim, ◌==◌, nat_lt, encode_utf8_all, true≢false}
use Rattle.std.proofs.{Math.Utf8.{scalar, encode}, lemmas.Bool.{and_parts, and_from, cases_lt, or_cases, or_right}}
use Rattle.std.proofs.{lemmas.Bool.Decides.{nat_tests}, lemmas.List.Sums.{prefix_len-le-length}}
use Rattle.std.proofs.lemmas.List.{drop_at, get_or_append_left, length-append, length-drop}
use Rattle.std.proofs.lemmas.Str.{encode_ascii, length-encode, len_utf8_bounds, IsUtf8-nil}
use Rattle.std.specs.{List.{list_all, prefix_len}, Str.{all_scalars}}
use Rattle.iref_grammar.specs.{Characters.{CharTests, HasCommon, is_common}, Grammar.{percent_sign}, Rules.{Text}}
use Rattle.iref_parse.specs.Plain.{is_plain_byte, is_of_common, is_common_byte, begins_common}
use Rattle.iref_parse.specs.Encoded.{are_encoded, is_plain_char, BeginsCommon, StepsTo}
use Rattle.iref_parse.proofs.{EncodedTextLemmas.{char_step}, PlainTextLemmas.{plain_stands_for_itself}}

-- ---- the bytes of one character

first_high : (c : ℕ) → 128 ≤ c → 128 ≤ get_or (encode c) 0 0
unfolding encode
first_high c l = grind (arith, nat_tests)

-- only a common character has such a first byte
common_from_first : (c : ℕ) → 128 ≤ c → scalar c ≡ true → is_of_common (get_or (encode c) 0 0) ≡ true → is_common c ≡ true
unfolding encode
common_from_first c l s h = grind (arith, nat_tests)

bytes_of_common : (c : ℕ) → is_common c ≡ true → list_all is_of_common (encode c) ≡ true
unfolding encode
bytes_of_common c h = grind (arith, nat_tests)

size_of_common : (c : ℕ) → scalar c ≡ true → begins_common (get_or (encode c) 0 0) ≡ true → (is_common c ≡ true) × (length (encode c) ≡ cond (nat_lt (get_or (encode c) 0 0) 224) 2 3)
unfolding encode
size_of_common c s h = grind (arith, nat_tests)

-- ---- a front of bytes that pass

module _ (p : ℕ → Bool) where
  past_passing : (xs ys : List ℕ) → list_all p xs ≡ true → drop (prefix_len p (xs ++ ys)) (xs ++ ys) ≡ drop (prefix_len p ys) ys
  past_passing [] ys h = refl
  past_passing (x ∷ xs) ys h =
      let parts = and_parts (p x) (list_all p xs) h in
      let n = prefix_len p (xs ++ ys) in
      let next : 1 + n ≡ suc n = omega arith in
      ap (λ b. drop (cond b (1 + n) 0) (x ∷ (xs ++ ys))) parts.0 ∙ ap (λ k. drop k (x ∷ (xs ++ ys))) next ∙ past_passing xs ys parts.1

  none_passing : (xs ys : List ℕ) → 0 < length xs → p (get_or xs 0 0) ≡ false → prefix_len p (xs ++ ys) ≡ 0
  none_passing [] ys l h = absurd (omega arith)
  none_passing (x ∷ xs) ys l h = ap (λ b. cond b (1 + prefix_len p (xs ++ ys)) 0) h

all_wider : (p q : ℕ → Bool) (xs : List ℕ) → ((x : ℕ) → p x ≡ true → q x ≡ true) → list_all p xs ≡ true → list_all q xs ≡ true
all_wider p q [] wider h = refl
all_wider p q (x ∷ xs) wider h = let parts = and_parts (p x) (list_all p xs) h in and_from _ _ (wider x parts.0) (all_wider p q xs wider parts.1)

nonempty : (c : ℕ) → 0 < length (encode c)
nonempty c = omega (arith, length-encode c, len_utf8_bounds c)

-- ---- the front of a text

module _ (set : CharTests) (has : HasCommon set) where
  -- a character whose first byte passes passes with all of its bytes, and stands for itself
  record Passes (c : ℕ) : Type 0 where
    other : (c == percent_sign) ≡ false
    plain : is_plain_char set c ≡ true
    bytes : list_all is_common_byte (encode c) ≡ true

  passes_ascii : (c : ℕ) → c < 128 → is_common_byte (get_or (encode c) 0 0) ≡ true → Passes c
  passes_ascii c l h =
      let one = encode_ascii c l in
      let byte : is_common_byte c ≡ true = ap (λ bs. is_common_byte (get_or bs 0 0)) (sym one) ∙ h in
      let no : is_of_common c ≡ false = grind (arith, nat_tests) in
      let plain : is_plain_byte c ≡ true = ⊎_elim (λ yes. yes) (λ yes. absurd (true≢false (sym yes ∙ no))) (or_cases (is_plain_byte c) (is_of_common c) byte) in
      let stands = plain_stands_for_itself set c plain in
      record { other = stands.1; plain = stands.2; bytes = ap (list_all is_common_byte) one ∙ and_from _ _ byte refl }

  passes_wide : (c : ℕ) → 128 ≤ c → scalar c ≡ true → is_common_byte (get_or (encode c) 0 0) ≡ true → Passes c
  passes_wide c l s h =
      let first = get_or (encode c) 0 0 in
      let high = first_high c l in
      let part : is_of_common first ≡ true = ⊎_elim (λ yes. let low = (plain_stands_for_itself set first yes).0 in absurd (omega arith)) (λ yes. yes) (or_cases (is_plain_byte first) (is_of_common first) h) in
      let common = common_from_first c l s part in
      record {
        other = grind (arith, nat_tests);
        plain = or_right (is_plain_byte c) (set.extra c) (has.extra c common);
        bytes = all_wider is_of_common is_common_byte (encode c) (λ b. or_right (is_plain_byte b) (is_of_common b)) (bytes_of_common c common);
      }

  passes : (c : ℕ) → scalar c ≡ true → is_common_byte (get_or (encode c) 0 0) ≡ true → Passes c
  passes c s h = ⊎_elim (λ l. passes_ascii c l h) (λ l. passes_wide c l s h) (cases_lt c 128)

  abbrev past_front : Text → Text
  past_front text = drop (prefix_len is_common_byte text) text

  record FrontPasses (text : Text) : Type 0 where
    encoded : are_encoded (is_plain_char set) (past_front text) ≡ true → are_encoded (is_plain_char set) text ≡ true
    utf8 : IsUtf8 (past_front text)

  front_passes : (cs : Text) → all_scalars cs ≡ true → FrontPasses (encode_utf8_all cs)
  front_passes [] h = record { encoded = λ k. k; utf8 = IsUtf8-nil }
  front_passes (c ∷ cs) h = by (is_common_byte (get_or (encode c) 0 0)) refl (front_passes cs parts.1)
    where
      parts : (scalar c ≡ true) × (all_scalars cs ≡ true)
      parts = and_parts (scalar c) (all_scalars cs) h

      rest : Text
      rest = encode_utf8_all cs

      by : (b : Bool) → is_common_byte (get_or (encode c) 0 0) ≡ b → FrontPasses rest → FrontPasses (encode c ++ rest)
      by true e more =
          let one = passes c parts.0 e in
          let same = past_passing is_common_byte (encode c) rest one.bytes in
          record {
            encoded = λ k. (char_step (is_plain_char set) c (encode c ++ rest) rest refl parts.0 one.other one.plain).encoded (more.encoded (ap (are_encoded (is_plain_char set)) (sym same) ∙ k));
            utf8 = subst IsUtf8 (sym same) more.utf8;
          }
      by false e more =
          let none : past_front (encode c ++ rest) ≡ encode c ++ rest = ap (λ n. drop n (encode c ++ rest)) (none_passing is_common_byte (encode c) rest (nonempty c) e) in
          let u : IsUtf8 (encode c ++ rest) = (c ∷ cs, (h, refl)) in
          record { encoded = λ k. ap (are_encoded (is_plain_char set)) (sym none) ∙ k; utf8 = subst IsUtf8 (sym none) u }

  pub common_step : (text : Text) → IsUtf8 text → 0 < prefix_len is_common_byte text → StepsTo (is_plain_char set) text (past_front text)
  common_step text u some =
      let front = subst FrontPasses u.1.1 (front_passes u.0 u.1.0) in
      let n = prefix_len is_common_byte text in
      record { encoded = front.encoded; utf8 = λ _. front.utf8; shorter = omega (arith, length-drop n text, some, prefix_len-le-length is_common_byte text) }

  pub common_char_step : (text rest : Text) → BeginsCommon text rest → StepsTo (is_plain_char set) text rest
  common_char_step text rest b =
      let c = b.code in
      let common = b.common in
      char_step (is_plain_char set) c text rest b.spelled (grind (arith, nat_tests)) (grind (arith, nat_tests)) (or_right (is_plain_byte c) (set.extra c) (has.extra c common))

-- the first character, by its first byte
common_char : (text : Text) → IsUtf8 text → begins_common (get_or text 0 0) ≡ true → (n : ℕ) → n ≡ cond (nat_lt (get_or text 0 0) 224) 2 3 → (n ≤ length text) × BeginsCommon text (drop n text)
common_char text u h n e = subst (λ t. begins_common (get_or t 0 0) ≡ true → n ≡ cond (nat_lt (get_or t 0 0) 224) 2 3 → (n ≤ length t) × BeginsCommon t (drop n t)) u.1.1 (by u.0 u.1.0) h e
  where
    by : (cs : Text) → all_scalars cs ≡ true → begins_common (get_or (encode_utf8_all cs) 0 0) ≡ true → n ≡ cond (nat_lt (get_or (encode_utf8_all cs) 0 0) 224) 2 3
        → (n ≤ length (encode_utf8_all cs)) × BeginsCommon (encode_utf8_all cs) (drop n (encode_utf8_all cs))
    by [] s k m = absurd (true≢false (sym k))
    by (c ∷ cs) s k m =
        let rest = encode_utf8_all cs in
        let first = get_or_append_left (encode c) rest 0 0 (nonempty c) in
        let one = size_of_common c ((and_parts (scalar c) (all_scalars cs) s).0) (ap begins_common (sym first) ∙ k) in
        let size : length (encode c) ≡ n = one.1 ∙ ap (λ b. cond (nat_lt b 224) 2 3) (sym first) ∙ sym m in
        (omega (arith, size, length-append (encode c) rest), record { code = c; common = one.0; spelled = ap (λ t. encode c ++ t) (sym (drop_at (encode c) rest n size)) })

module _ (text : Text) (u : IsUtf8 text) (h : begins_common (get_or text 0 0) ≡ true) where
  pub common_of_two : get_or text 0 0 < 224 → (2 ≤ length text) × BeginsCommon text (drop 2 text)
  common_of_two l = common_char text u h 2 (grind (arith, nat_tests))

  pub common_of_three : 224 ≤ get_or text 0 0 → (3 ≤ length text) × BeginsCommon text (drop 3 text)
  common_of_three l = common_char text u h 3 (grind (arith, nat_tests))

-- Places in bytes where each character is one byte, up to the place.
use Rattle.std.proofs.Common.{◌≡◌, ℕ, suc, ◌<◌, ◌≤◌, Bool, true, false, not, [], ◌∷◌, ◌++◌, length, refl, sym, ap, ◌∙◌, arith, chars, IsUtf8, get_or, slice_index, drop, length-append, ⊎_elim, zero-add, Option, Some, None, option_map, encode_utf8, encode_utf8_all, if◌then◌else◌, true≢false}
use Rattle.std.proofs.{lemmas.Bool.{cases_lt}, lemmas.Bool.Decides.{nat_tests}}
use Rattle.std.proofs.lemmas.Str.{encodes-chars, encode_ascii, chars-nil, char_from_byte, byte_from_char, length-encode, len_utf8_bounds}
use Rattle.std.proofs.lemmas.List.{nil_from_length}
use Rattle.std.specs.{List.{position}, Char.{is_ascii_digit, is_ascii_alphabetic}}
use Rattle.iref_grammar.proofs.PartRuleLemmas.{letter_low, scheme_low, digit_low}
use Rattle.iref_parse.proofs.ScanLemmas.{chars-ascii}
use Rattle.iref_fault.proofs.BytePlaceLemmas.{located-suc}
use Rattle.iref_grammar.specs.{Rules.{Text}, Grammar.{is_scheme_char}}
use Rattle.iref_fault.specs.{Places.{ones_place, scheme_place}, BytePlaces.{located, byte_place}}

-- the first that does not pass, at a first element
pub ones-first : (test : ℕ → Bool) (c : ℕ) (cs : Text) → ones_place test (c ∷ cs) ≡ (if test c then option_map suc (ones_place test cs) else Some 0)
ones-first test c cs = grind (arith, nat_tests)

fails_first : (test : ℕ → Bool) (bytes : Text) → 0 < length bytes → test (get_or bytes 0 0) ≡ false → ones_place test bytes ≡ Some 0
fails_first test [] l h = absurd (omega arith)
fails_first test (b ∷ bs) l h = ones-first test b bs ∙ ap (λ t. if t then option_map suc (ones_place test bs) else Some 0) h

-- a test of ASCII fails at the first byte of a character at which it fails
module _ (test : ℕ → Bool) (high : (c : ℕ) → 128 ≤ c → test c ≡ false) where
  low : (c : ℕ) → test c ≡ true → c < 128
  low c h = ⊎_elim (λ l. l) (λ g. absurd (true≢false (sym h ∙ high c g))) (cases_lt c 128)

  lead_fails : (c : ℕ) (rest : Text) → test c ≡ false → ones_place test (encode_utf8 c ++ rest) ≡ Some 0
  lead_fails c rest h =
      let bytes = encode_utf8 c ++ rest in
      let some : 0 < length bytes = omega (arith, length-append (encode_utf8 c) rest, length-encode c, (len_utf8_bounds c).0) in
      fails_first test bytes some (⊎_elim (λ l. ap test (sym (char_from_byte bytes rest c refl l some)) ∙ h) (λ g. high (get_or bytes 0 0) g) (cases_lt (get_or bytes 0 0) 128))

  one_on : (cs : Text) (place : Option ℕ) → located 1 cs place ≡ option_map suc (located 0 cs place)
  one_on cs None = refl
  one_on cs (Some n) = ap (λ m. Some m) (omega arith)

  -- where it fails among characters, and among their bytes
  pub ones_in_bytes : (cs : Text) → located 0 cs (ones_place test cs) ≡ ones_place test (encode_utf8_all cs)
  ones_in_bytes [] = refl
  ones_in_bytes (c ∷ cs) = ap (located 0 (c ∷ cs)) (ones-first test c cs) ∙ by (test c) refl (ones_in_bytes cs)
    where
      by : (b : Bool) → test c ≡ b → located 0 cs (ones_place test cs) ≡ ones_place test (encode_utf8_all cs) → located 0 (c ∷ cs) (if b then option_map suc (ones_place test cs) else Some 0) ≡ ones_place test (encode_utf8 c ++ encode_utf8_all cs)
      by false h more = sym (lead_fails c (encode_utf8_all cs) h)
      by true h more =
          let one = encode_ascii c (low c h) in
          located-suc 0 c cs (ones_place test cs)
          ∙ ap (λ n. located n cs (ones_place test cs)) (zero-add (length (encode_utf8 c)) ∙ ap length one)
          ∙ one_on cs (ones_place test cs)
          ∙ ap (option_map suc) more
          ∙ sym (ones-first test c (encode_utf8_all cs) ∙ ap (λ t. if t then option_map suc (ones_place test (encode_utf8_all cs)) else Some 0) h)
          ∙ ap (λ t. ones_place test (t ++ encode_utf8_all cs)) (sym one)

  pub ones_in_text : (text : Text) → IsUtf8 text → byte_place (ones_place test) text ≡ position (λ b. not (test b)) text
  ones_in_text text u = ones_in_bytes (chars text) ∙ ap (ones_place test) (encodes-chars text u)

letter_in_scheme : (c : ℕ) → is_ascii_alphabetic c ≡ true → is_scheme_char c ≡ true
letter_in_scheme c h = grind (arith, nat_tests)

pub digits_in_bytes : (text : Text) → IsUtf8 text → byte_place (ones_place is_ascii_digit) text ≡ position (λ b. not (is_ascii_digit b)) text
digits_in_bytes text u = ones_in_text is_ascii_digit digit_low text u

-- a scheme that begins with a letter, and one that does not
letter_first : (c : ℕ) (cs : Text) → is_ascii_alphabetic c ≡ true → scheme_place (c ∷ cs) ≡ ones_place is_scheme_char (c ∷ cs)
letter_first c cs h =
    ap (λ b. if b then option_map suc (ones_place is_scheme_char cs) else Some 0) (h ∙ sym (letter_in_scheme c h)) ∙ sym (ones-first is_scheme_char c cs)

pub scheme_in_bytes : (text : Text) → IsUtf8 text → 0 < length text → is_ascii_alphabetic (slice_index text 0) ≡ true → byte_place scheme_place text ≡ position (λ b. not (is_scheme_char b)) text
scheme_in_bytes text u l h =
    let first = chars-ascii text u l (low is_ascii_alphabetic letter_low (slice_index text 0) h) in
    ap (located 0 (chars text)) (ap scheme_place first ∙ letter_first (slice_index text 0) (chars (drop 1 text)) h ∙ ap (ones_place is_scheme_char) (sym first))
    ∙ ones_in_text is_scheme_char scheme_low text u

pub empty_scheme : (text : Text) → length text ≡ 0 → byte_place scheme_place text ≡ Some 0
empty_scheme text e = ap (λ cs. located 0 cs (scheme_place cs)) (ap chars (nil_from_length text e) ∙ chars-nil)

pub no_letter : (text : Text) → IsUtf8 text → is_ascii_alphabetic (slice_index text 0) ≡ false → byte_place scheme_place text ≡ Some 0
no_letter text u h = by (chars text) (encodes-chars text u)
  where
    by : (cs : Text) → encode_utf8_all cs ≡ text → located 0 cs (scheme_place cs) ≡ Some 0
    by [] e = refl
    by (c ∷ cs) e = at (is_ascii_alphabetic c) refl
      where
        at : (b : Bool) → is_ascii_alphabetic c ≡ b → located 0 (c ∷ cs) (if b then option_map suc (ones_place is_scheme_char cs) else Some 0) ≡ Some 0
        at false k = refl
        at true k = absurd (true≢false (sym k ∙ ap is_ascii_alphabetic (sym (byte_from_char text (encode_utf8_all cs) c (sym e) (low is_ascii_alphabetic letter_low c k))) ∙ h))

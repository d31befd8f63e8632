-- Steps of a scan of characters and escapes.
use Rattle.std.proofs.Common.{◌≡◌, ℕ, ◌+◌, ◌<◌, Bool, true, false, [], ◌∷◌, ◌++◌, ◌&&◌, length, drop, slice_index, chars, IsUtf8, sym, ap, ◌∙◌, arith, add-one, length-append, Option, Some, None, ◌==◌, encode_utf8, if◌then◌else◌}
use Rattle.std.proofs.{lemmas.Bool.Decides.{nat_tests}, lemmas.List.{nil_from_length}}
use Rattle.std.proofs.lemmas.Str.{is_utf8-from_IsUtf8, chars_past_char, chars-nil, encode_ascii, length-encode, len_utf8_bounds}
use Rattle.std.specs.{Borrow.{Bor}, Char.{is_ascii, is_ascii_hexdigit}}
use Rattle.iref_grammar.specs.{Rules.{Text}, Grammar.{percent_sign, is_not_percent}}
use Rattle.iref_grammar.specs.Tests.{owed_after, is_encoded_after, is_encoded, ScansTo}
use Rattle.iref_grammar.proofs.TextLemmas.{first_of_both, second_of_both}
use Rattle.iref_grammar.proofs.EncodedLemmas.{by_char, by_digit, by_percent}

pub ruleset utf8 = (is_utf8-from_IsUtf8)

-- the first character and the bytes that follow it
pub first_char : (bytes rest : Text) (c : ℕ) → IsUtf8 bytes → bytes ≡ encode_utf8 c ++ rest → (chars bytes ≡ c ∷ chars rest) × (length rest < length bytes)
first_char bytes rest c u e = (
  chars_past_char bytes rest c u e,
  omega (arith, length-append (encode_utf8 c) rest, length-encode c, len_utf8_bounds c, ap length e),
)

-- the same scan after one character, where that leaves this much owed
after_one : (test : ℕ → Bool) (owed c : ℕ) (left : Option ℕ) (bytes : Text) (rest : Text) → chars bytes ≡ c ∷ chars rest → owed_after test owed c ≡ left
    → is_encoded_after test (Some owed) (chars bytes) ≡ is_encoded_after test left (chars rest)
after_one test owed c left bytes rest e h = ap (is_encoded_after test (Some owed)) e ∙ ap (λ o. is_encoded_after test o (chars rest)) h

pub after_hexdigit : (test : ℕ → Bool) (owed c : ℕ) (is_digit : Bool) (bytes rest : Text) → chars bytes ≡ c ∷ chars rest → is_digit ≡ is_ascii_hexdigit c
    → is_encoded_after test (Some (owed + 1)) (chars bytes) ≡ is_encoded_after test (if is_digit then Some owed else None) (chars rest)
after_hexdigit test owed c is_digit bytes rest e h =
    after_one test (owed + 1) c (if is_digit then Some owed else None) bytes rest e
    (ap (λ n. owed_after test n c) (add-one owed) ∙ by_digit test owed c ∙ ap (λ b. if b then Some owed else None) (sym h))

pub after_percent : (test : ℕ → Bool) (c : ℕ) (bytes rest : Text) → chars bytes ≡ c ∷ chars rest → c ≡ percent_sign
    → is_encoded_after test (Some 0) (chars bytes) ≡ is_encoded_after test (Some 2) (chars rest)
after_percent test c bytes rest e h = after_one test 0 c (Some 2) bytes rest e (by_percent test c h)

pub after_char : (test : ℕ → Bool) (c : ℕ) (allowed : Bool) (bytes rest : Text) → chars bytes ≡ c ∷ chars rest → (c == percent_sign) ≡ false → allowed ≡ test c
    → is_encoded_after test (Some 0) (chars bytes) ≡ is_encoded_after test (if allowed then Some 0 else None) (chars rest)
after_char test c allowed bytes rest e h k =
    after_one test 0 c (if allowed then Some 0 else None) bytes rest e (by_char test c h ∙ ap (λ b. if b then Some 0 else None) (sym k))

-- one scan and then another
pub then_scans : (test : ℕ → Bool) (owed middle left : ℕ) (bytes rest : Text) (result : Option (Bor Text))
    → is_encoded_after test (Some owed) (chars bytes) ≡ is_encoded_after test (Some middle) (chars rest) → length rest < length bytes → ScansTo test middle left rest result → ScansTo test owed left bytes result
then_scans test owed middle left bytes rest None e l h = e ∙ h
then_scans test owed middle left bytes rest (Some after) e l h = (e ∙ h.0, omega (arith, h.1))

pub none_is_owed : (test : ℕ → Bool) (owed : ℕ) (bytes : Text) → length bytes ≡ 0 → is_encoded_after test (Some (owed + 1)) (chars bytes) ≡ false
none_is_owed test owed bytes h = ap (is_encoded_after test (Some (owed + 1))) (ap chars (nil_from_length bytes h) ∙ chars-nil) ∙ grind (arith, nat_tests)

pub nothing_left : (test : ℕ → Bool) (bytes : Text) → length bytes ≡ 0 → true ≡ is_encoded test (chars bytes)
nothing_left test bytes h = sym (ap (is_encoded test) (ap chars (nil_from_length bytes h) ∙ chars-nil))

-- an ASCII character is one byte
pub chars-ascii : (bytes : Text) → IsUtf8 bytes → 0 < length bytes → slice_index bytes 0 < 128 → chars bytes ≡ slice_index bytes 0 ∷ chars (drop 1 bytes)
chars-ascii [] u l h = absurd (omega arith)
chars-ascii (b ∷ bs) u l h = chars_past_char (b ∷ bs) bs b u (ap (λ t. t ++ bs) (sym (encode_ascii b h)))

pub after_byte : (test : ℕ → Bool) (b : ℕ) (taken : Bool) (bytes rest : Text) → chars bytes ≡ b ∷ chars rest → taken ≡ (is_ascii b && (is_not_percent b && test b)) → taken ≡ true
    → is_encoded_after test (Some 0) (chars bytes) ≡ is_encoded_after test (Some 0) (chars rest)
after_byte test b taken bytes rest e h k =
    let plain = second_of_both (is_ascii b) (is_not_percent b && test b) (sym h ∙ k) in
    let other : (b == percent_sign) ≡ false = grind (arith, nat_tests, first_of_both (is_not_percent b) (test b) plain) in
    after_char test b true bytes rest e other (sym (second_of_both (is_not_percent b) (test b) plain))

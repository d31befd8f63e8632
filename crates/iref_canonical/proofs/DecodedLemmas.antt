-- The last byte that a text decodes to.
use Rattle.std.proofs.Common.{◌≡◌, ℕ, zero, suc, ◌+◌, ◌*◌, ◌<◌, true, false, [], ◌∷◌, ◌++◌, get_or, length, take, refl, sym, ◌∙◌, ap, arith}
use Rattle.std.proofs.{lemmas.Grind.{common_steps}, lemmas.Bool.Decides.{nat_tests}}
use Rattle.std.specs.Char.{digit_value}
use Rattle.percent_encoding.specs.Percent.{is_escape, percent_decode}
use Rattle.iref_grammar.specs.Rules.{Text}
use Rattle.iref_canonical.specs.Decoded.{SplitsLast, ends_in_escape}

-- a percent sign is no digit, so no escape begins before it and ends in it
no_digit : (b c : ℕ) → is_escape b c 37 ≡ false
no_digit b c = grind (arith, nat_tests)

no_first_digit : (b c : ℕ) → is_escape b 37 c ≡ false
no_first_digit b c = grind (arith, nat_tests)

-- an escape at the end is decoded last
pub decode_last_escape : (front : Text) (high low : ℕ) → is_escape 37 high low ≡ true
    → percent_decode (front ++ 37 ∷ high ∷ low ∷ []) ≡ percent_decode front ++ (16 * digit_value high + digit_value low) ∷ []
unfolding percent_decode
decode_last_escape [] high low h = grind (arith, h)
decode_last_escape (b ∷ []) high low h = grind (arith, h, no_first_digit b high)
decode_last_escape (b ∷ c ∷ []) high low h = grind (arith, h, no_digit b c, no_first_digit c high)
decode_last_escape (b ∷ c ∷ d ∷ front) high low h = grind (arith, decode_last_escape front high low h, decode_last_escape (c ∷ d ∷ front) high low h)

-- any other last byte is kept
pub decode_last_byte : (front : Text) (last : ℕ) → ends_in_escape (front ++ last ∷ []) ≡ false
    → percent_decode (front ++ last ∷ []) ≡ percent_decode front ++ last ∷ []
unfolding percent_decode
decode_last_byte [] last h = refl
decode_last_byte (b ∷ []) last h = refl
decode_last_byte (b ∷ c ∷ []) last h = grind (arith, h)
decode_last_byte (b ∷ c ∷ d ∷ []) last h = grind (arith, h, decode_last_byte [] last refl, decode_last_byte (c ∷ d ∷ []) last h)
decode_last_byte (b ∷ c ∷ d ∷ e ∷ []) last h = grind (arith, h, decode_last_byte (e ∷ []) last refl, decode_last_byte (c ∷ d ∷ e ∷ []) last h)
decode_last_byte (b ∷ c ∷ d ∷ e ∷ f ∷ []) last h = grind (arith, h, decode_last_byte (e ∷ f ∷ []) last h, decode_last_byte (c ∷ d ∷ e ∷ f ∷ []) last h)
decode_last_byte (b ∷ c ∷ d ∷ e ∷ f ∷ g ∷ front) last h = grind (arith, h, decode_last_byte (e ∷ f ∷ g ∷ front) last h, decode_last_byte (c ∷ d ∷ e ∷ f ∷ g ∷ front) last h)

-- ---- by the places of the bytes

pub ends-by_places : (front : Text) (b c d : ℕ) → ends_in_escape (front ++ b ∷ c ∷ d ∷ []) ≡ is_escape b c d
ends-by_places [] b c d = refl
ends-by_places (x ∷ []) b c d = refl
ends-by_places (x ∷ y ∷ []) b c d = refl
ends-by_places (x ∷ y ∷ z ∷ []) b c d = refl
ends-by_places (x ∷ y ∷ z ∷ w ∷ front) b c d = ends-by_places (y ∷ z ∷ w ∷ front) b c d

pub no_room : (text : Text) → length text < 3 → ends_in_escape text ≡ false
no_room [] h = refl
no_room (b ∷ []) h = refl
no_room (b ∷ c ∷ []) h = refl
no_room (b ∷ c ∷ d ∷ rest) h = absurd (omega arith)

-- the last three bytes, and those before them
three : (text : Text) (at : ℕ) → at + 3 ≡ length text
    → text ≡ take at text ++ get_or text at 0 ∷ get_or text (at + 1) 0 ∷ get_or text (at + 2) 0 ∷ []
three [] at e = absurd (omega arith)
three (b ∷ []) zero e = absurd (omega arith)
three (b ∷ c ∷ []) zero e = absurd (omega arith)
three (b ∷ c ∷ d ∷ []) zero e = refl
three (b ∷ c ∷ d ∷ x ∷ rest) zero e = absurd (omega arith)
three (b ∷ text) (suc at) e = grind (arith, common_steps, three text at)

pub ends-at : (text : Text) (at : ℕ) → at + 3 ≡ length text → ends_in_escape text ≡ is_escape (get_or text at 0) (get_or text (at + 1) 0) (get_or text (at + 2) 0)
ends-at text at e = ap ends_in_escape (three text at e) ∙ ends-by_places (take at text) _ _ _

pub splits-escape : (text : Text) (at : ℕ) → at + 3 ≡ length text → get_or text at 0 ≡ 37 → digit_value (get_or text (at + 1) 0) < 16 → digit_value (get_or text (at + 2) 0) < 16
    → SplitsLast percent_decode text (take at text) (16 * digit_value (get_or text (at + 1) 0) + digit_value (get_or text (at + 2) 0))
splits-escape text at e percent high low =
    let h = get_or text (at + 1) 0 in
    let l = get_or text (at + 2) 0 in
    let escape : is_escape 37 h l ≡ true = grind (arith, nat_tests) in
    record {
      split = ap percent_decode (three text at e ∙ ap (λ b. take at text ++ b ∷ h ∷ l ∷ []) percent) ∙ decode_last_escape (take at text) h l escape;
      shorter = grind (arith, common_steps);
    }

pub splits-byte : (text front : Text) (last : ℕ) → text ≡ front ++ last ∷ [] → ends_in_escape text ≡ false → SplitsLast percent_decode text front last
splits-byte text front last e h =
    record {
      split = ap percent_decode e ∙ decode_last_byte front last (ap ends_in_escape (sym e) ∙ h);
      shorter = grind (arith, common_steps);
    }

pub ruleset splits = (splits-byte, splits-escape, ends-at, no_room)

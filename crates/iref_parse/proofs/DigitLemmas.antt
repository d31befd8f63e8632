-- Octets and groups, as std parses them.
use Rattle.std.proofs.Common.{◌≡◌, ◌≢◌, ℕ, ◌^◌, ◌<◌, ◌≤◌, zero, suc, true, false, cond, ◌&&◌, [], ◌∷◌, length, get_or, refl, sym, ◌∙◌, ap, subst, arith, lit<, ◌==◌, nat_lt, nat_le, decimal, slice_index, Option, Some, None, Result, Ok, Err, lt_of_lt_of_le, true≢false}
use Rattle.std.proofs.{Math.Nat.{pow-le-pow_right}, lemmas.Bool.Decides.{nat_tests}}
use Rattle.std.proofs.lemmas.Int.Digits.{digits_value-lt}
use Rattle.std.proofs.lemmas.Fmt.{decimal_is_IsNumeral, decimal_nonempty, decimal_digit, first_decimal, decimal-digits_value}
use Rattle.std.proofs.lemmas.Str.Parse.{IsNumeralModel, numerals_by_value, tells_digits, digit_at, without_leading_plus_none}
use Rattle.std.specs.{Result.{result_ok, OkIff}, List.{list_all}, Char.{is_ascii_hexdigit, digit_value}}
use Rattle.std.specs.Str.Parse.{AllDigits, IsNumeral, ParsesUnsigned, digits_value}
use Rattle.iref_grammar.specs.{Rules.{Text}, IpAddresses.{octet_value, group_value}}
use Rattle.iref_grammar.proofs.TextLemmas.{first_of_both, second_of_both}
use Rattle.iref_grammar.proofs.Ipv4Lemmas.{octet_text, octet_of_decimal, wide}

-- ---- octets

digits : IsNumeralModel (AllDigits 10) (digits_value 10)
digits = numerals_by_value (AllDigits 10) tells_digits

-- a text that no octet is written as
octet_refused : (text : Text) → ((n : ℕ) → n < 256 → text ≡ decimal n → ⊥) → octet_value text ≡ None
octet_refused text unwritten = by (octet_value text) refl
  where
    by : (o : Option ℕ) → octet_value text ≡ o → o ≡ None
    by None e = refl
    by (Some n) e = let h = octet_text text n e in absurd (unwritten n h.0 h.1)

pub octet_value-plus : (text : Text) → get_or text 0 0 ≡ 43 → octet_value text ≡ None
octet_value-plus text first = octet_refused text (λ n h e.
    let range = digit_at (decimal n) 0 ((decimal_is_IsNumeral n (wide n h)).0.1) (decimal_nonempty n (wide n h)) in
    let here : get_or (decimal n) 0 0 ≡ 43 = ap (λ t. get_or t 0 0) (sym e) ∙ first in
    omega (arith, range.0, here))

pub octet_value-zero : (text : Text) → (slice_index text 0 == 48 && nat_lt 1 (length text)) ≡ true → octet_value text ≡ None
octet_value-zero text leads = octet_refused text unwritten
  where
    unwritten : (n : ℕ) → n < 256 → text ≡ decimal n → ⊥
    unwritten zero h e =
        let one : length text ≡ 1 = ap length e ∙ ap length (decimal_digit 0 (lit< tt)) in
        let long : 1 < length text = grind (arith, nat_tests) in
        omega arith
    unwritten (suc n) h e =
        let first : get_or text 0 0 ≡ 48 = grind (arith, nat_tests) in
        let here = ap (λ t. get_or t 0 0) e in
        omega (arith, first_decimal (suc n) (omega arith) (wide (suc n) h), here)

-- what `parse` answers to a text without sign and leading zeros
pub octet_value-parsed : {E : Type 0} (text : Text) (r : Result ℕ E) → ParsesUnsigned 8 10 text r → get_or text 0 0 ≢ 43 → (slice_index text 0 == 48 && nat_lt 1 (length text)) ≡ false → octet_value text ≡ result_ok r
octet_value-parsed {E} text r h plus leads = by r (subst (λ t. OkIff r (IsNumeral 10 t × (digits_value 10 t < 2 ^ 8)) (digits_value 10 t)) (without_leading_plus_none text plus) h)
  where
    alone : 0 < length text → get_or text 0 0 ≡ 48 → length text ≡ 1
    alone n e = grind (arith, nat_tests)

    by : (q : Result ℕ E) → OkIff q (IsNumeral 10 text × (digits_value 10 text < 2 ^ 8)) (digits_value 10 text) → octet_value text ≡ result_ok q
    by (Ok x) k =
        let spelled : decimal (digits_value 10 text) ≡ text = decimal-digits_value digits text k.0.0.1 k.0.0.0 (alone k.0.0.0) (wide (digits_value 10 text) k.0.1) in
        ap octet_value (sym spelled) ∙ octet_of_decimal (digits_value 10 text) k.0.1 ∙ ap (λ n. Some n) (sym k.1)
    by (Err e) k = octet_refused text (λ n l t. let z = decimal_is_IsNumeral n (wide n l) in k (subst (λ u. IsNumeral 10 u × (digits_value 10 u < 2 ^ 8)) (sym t) (z.0, subst (λ m. m < 256) (sym z.1) l)))

-- ---- groups

hexdigit_value : (c : ℕ) → is_ascii_hexdigit c ≡ true → digit_value c < 16
hexdigit_value c h = grind (arith, nat_tests)

hex_digits : (text : Text) → list_all is_ascii_hexdigit text ≡ true → AllDigits 16 text
hex_digits [] h = tt
hex_digits (c ∷ cs) h = (hexdigit_value c (first_of_both (is_ascii_hexdigit c) (list_all is_ascii_hexdigit cs) h), hex_digits cs (second_of_both (is_ascii_hexdigit c) (list_all is_ascii_hexdigit cs) h))

no_plus : (text : Text) → list_all is_ascii_hexdigit text ≡ true → get_or text 0 0 ≢ 43
no_plus [] h e = cc
no_plus (c ∷ cs) h e = absurd (true≢false (sym (first_of_both (is_ascii_hexdigit c) (list_all is_ascii_hexdigit cs) h) ∙ ap is_ascii_hexdigit e))

-- what `from_str_radix` answers to at most four hexadecimal digits
pub group_value-parsed : {E : Type 0} (text : Text) (r : Result ℕ E) → ParsesUnsigned 16 16 text r → (nat_le (length text) 4 && list_all is_ascii_hexdigit text) ≡ true → group_value text ≡ result_ok r
group_value-parsed {E} text r h test = by text r (subst (λ t. OkIff r (IsNumeral 16 t × (digits_value 16 t < 2 ^ 16)) (digits_value 16 t)) (without_leading_plus_none text (no_plus text hex)) h) hex short
  where
    short : nat_le (length text) 4 ≡ true
    short = first_of_both (nat_le (length text) 4) (list_all is_ascii_hexdigit text) test

    hex : list_all is_ascii_hexdigit text ≡ true
    hex = second_of_both (nat_le (length text) 4) (list_all is_ascii_hexdigit text) test

    fits : (t : Text) → list_all is_ascii_hexdigit t ≡ true → nat_le (length t) 4 ≡ true → digits_value 16 t < 2 ^ 16
    fits t k s = let few : length t ≤ 4 = grind (arith, nat_tests) in lt_of_lt_of_le (digits_value-lt 16 t (hex_digits t k)) (pow-le-pow_right {n = 16} (lit< tt) few)

    by : (t : Text) (q : Result ℕ E) → OkIff q (IsNumeral 16 t × (digits_value 16 t < 2 ^ 16)) (digits_value 16 t) → list_all is_ascii_hexdigit t ≡ true → nat_le (length t) 4 ≡ true → group_value t ≡ result_ok q
    by [] (Ok x) k d s = let m = k.0.0.0 in absurd (omega arith)
    by [] (Err e) k d s = refl
    by (c ∷ cs) (Ok x) k d s = (λ i. cond (s i && d i) (Some (digits_value 16 (c ∷ cs))) None) ∙ ap (λ n. Some n) (sym k.1)
    by (c ∷ cs) (Err e) k d s = absurd (k ((omega arith, hex_digits (c ∷ cs) d), fits (c ∷ cs) d s))

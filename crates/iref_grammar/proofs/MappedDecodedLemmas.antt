-- Decoding undoes the mapping.
use Rattle.std.proofs.Common.{◌≡◌, ℕ, ◌+◌, ◌*◌, ◌<◌, Bool, true, false, ◌&&◌, All, [], ◌∷◌, ◌++◌, refl, sym, ◌∙◌, ap, arith, ◌==◌, if◌then◌else◌, true≢false}
use Rattle.std.proofs.{lemmas.Grind.{common_steps}, lemmas.Bool.{and_parts, eqb-true}, lemmas.Bool.Decides.{nat_tests}}
use Rattle.std.proofs.lemmas.List.Elements.{All-head, All-tail}
use Rattle.std.specs.Char.{digit_value, is_digit, is_ascii}
use Rattle.percent_encoding.specs.Percent.{percent_sign, percent_encode_byte, is_escape, percent_decode, KeepsFirst}
use Rattle.percent_encoding.proofs.PercentLemmas.{IsByte, percent_decode-percent_encode_byte}
use Rattle.iref_grammar.specs.Rules.{Text}
use Rattle.iref_grammar.specs.Mapping.{mapped}
use Rattle.iref_grammar.proofs.MappedLemmas.{mapped-nil, mapped-kept, mapped-escaped}

digit_ascii : (c : ℕ) → is_digit c 16 ≡ true → is_ascii c ≡ true
digit_ascii c h = grind (arith, nat_tests)

-- an escape begins with `%`, which is no digit
escape_begins : (b : ℕ) (t : Text) (c : ℕ) (cs : Text) → percent_encode_byte b ++ t ≡ c ∷ cs → is_digit c 16 ≡ true → ⊥
unfolding percent_encode_byte
escape_begins b t c cs e h = let same : 37 ≡ c = cc in true≢false (sym h ∙ ap (λ d. is_digit d 16) (sym same))

-- a mapping that begins with a digit
begins_with_digit : (bs : Text) (c : ℕ) (cs : Text) → mapped bs ≡ c ∷ cs → is_digit c 16 ≡ true → (rest : Text) × (bs ≡ c ∷ rest) × (mapped rest ≡ cs)
begins_with_digit [] c cs e h = let n : [] ≡ c ∷ cs = sym mapped-nil ∙ e in cc
begins_with_digit (b ∷ bs) c cs e h = grind (arith, common_steps, mapped-kept, escape_begins, mapped-escaped)

-- no escape comes to stand before a mapping where none stood before the text
BeginsNoEscape : ℕ → Text → Type 0
BeginsNoEscape b bs = (high low : ℕ) (rest : Text) → bs ≡ high ∷ low ∷ rest → is_escape b high low ≡ true → ⊥

keeps_first : (b : ℕ) (bs : Text) → BeginsNoEscape b bs → (t : Text) → mapped bs ≡ t → KeepsFirst (b ∷ t)
unfolding percent_decode BeginsNoEscape
keeps_first b bs never [] e = refl
keeps_first b bs never (c ∷ []) e = refl
keeps_first b bs never (high ∷ low ∷ rest) e = by (is_escape b high low) refl
  where
    by : (escape : Bool) → is_escape b high low ≡ escape
        → (if escape then (16 * digit_value high + digit_value low) ∷ percent_decode rest else b ∷ percent_decode (high ∷ low ∷ rest)) ≡ b ∷ percent_decode (high ∷ low ∷ rest)
    by false f = refl
    by true f =
        let outer = and_parts (b == percent_sign && is_digit high 16) (is_digit low 16) f in
        let inner = and_parts (b == percent_sign) (is_digit high 16) outer.0 in
        let one = begins_with_digit bs high (low ∷ rest) e inner.1 in
        let two = begins_with_digit one.0 low rest one.2 outer.1 in
        absurd (never high low two.0 (one.1 ∙ ap (λ t. high ∷ t) two.1) f)

-- one more byte that begins no escape
one_more : (b : ℕ) (bs : Text) → b < 256 → BeginsNoEscape b bs → percent_decode (mapped bs) ≡ percent_decode bs → percent_decode (mapped (b ∷ bs)) ≡ b ∷ percent_decode bs
one_more b bs small never rest = grind (arith, common_steps, mapped-kept, keeps_first, mapped-escaped, percent_decode-percent_encode_byte)

-- a text of bytes, and its mapping, are the same when decoded
pub decoded-mapped : (text : Text) → All IsByte text → percent_decode (mapped text) ≡ percent_decode text
unfolding percent_decode BeginsNoEscape
decoded-mapped [] small = ap percent_decode mapped-nil
decoded-mapped (b ∷ []) small = one_more b [] (All-head IsByte b [] small) (λ high low rest e. cc) (decoded-mapped [] (All-tail IsByte b [] small))
decoded-mapped (b ∷ c ∷ []) small =
    one_more b (c ∷ []) (All-head IsByte b (c ∷ []) small) (λ high low rest e. cc) (decoded-mapped (c ∷ []) (All-tail IsByte b (c ∷ []) small))
decoded-mapped (b ∷ high ∷ low ∷ rest) small =
    let after = All-tail IsByte b (high ∷ low ∷ rest) small in
    by (is_escape b high low) refl (decoded-mapped (high ∷ low ∷ rest) after) (decoded-mapped rest (All-tail IsByte low rest (All-tail IsByte high (low ∷ rest) after)))
  where
    by : (escape : Bool) → is_escape b high low ≡ escape → percent_decode (mapped (high ∷ low ∷ rest)) ≡ percent_decode (high ∷ low ∷ rest) → percent_decode (mapped rest) ≡ percent_decode rest
        → percent_decode (mapped (b ∷ high ∷ low ∷ rest)) ≡ (if escape then (16 * digit_value high + digit_value low) ∷ percent_decode rest else b ∷ percent_decode (high ∷ low ∷ rest))
    by false f next later = one_more b (high ∷ low ∷ rest) (All-head IsByte b (high ∷ low ∷ rest) small) (λ h l r e g. true≢false (sym g ∙ same h l r e ∙ f)) next
      where
        same : (h l : ℕ) (r : Text) → high ∷ low ∷ rest ≡ h ∷ l ∷ r → is_escape b h l ≡ is_escape b high low
        same h l r e = let one : h ≡ high = cc in let two : l ≡ low = cc in λ i. is_escape b (one i) (two i)
    by true f next later = grind (arith, common_steps, and_parts, mapped-kept, eqb-true, digit_ascii)

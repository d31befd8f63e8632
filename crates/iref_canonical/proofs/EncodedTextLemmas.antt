-- Texts encoded for a set of characters of ASCII: decoding gives the bytes back, and the text is in the rule of the set.
use Rattle.std.proofs.Common.{◌≡◌, ℕ, ◌/◌, ◌%◌, Bool, true, false, All, [], ◌∷◌, ◌++◌, refl, sym, ◌∙◌, ap, arith, true≢false}
use Rattle.std.proofs.{lemmas.Bool.{cond-true, cond-false, and_from}, lemmas.List.Elements.{All-head, All-tail}}
use Rattle.std.proofs.lemmas.List.Folds.{list_all-append}
use Rattle.std.specs.{Char.{is_ascii}, Fmt.{digit_glyph}, List.{list_all}}
use Rattle.percent_encoding.specs.Percent.{percent_sign, percent_encode_byte, percent_decode}
use Rattle.percent_encoding.proofs.PercentLemmas.{IsByte, percent_decode-nil, percent_decode_not_percent, percent_decode-percent_encode_byte}
use Rattle.iref_grammar.specs.{Rules.{Text, InUtf8}, Grammar.{IsEncoded}, Tests.{is_encoded, is_encoded_after}}
use Rattle.iref_grammar.proofs.EncodedLemmas.{by_percent, by_digit, take_char, Decides-is_encoded}
use Rattle.iref_grammar.proofs.{MappedLemmas.{escape_ascii}, MappedMarkLemmas.{glyph_hex}}
use Rattle.iref_grammar.proofs.MappedRuleLemmas.{ascii_in_utf8}
use Rattle.iref_canonical.specs.Canonical.{encoded}

pub encoded-nil : (test : ℕ → Bool) → encoded test [] ≡ []
unfolding encoded
encoded-nil test = refl

pub encoded-kept : (test : ℕ → Bool) (b : ℕ) (bs : Text) → test b ≡ true → encoded test (b ∷ bs) ≡ b ∷ encoded test bs
unfolding encoded
encoded-kept test b bs h = ap (λ x. x ++ encoded test bs) (cond-true (test b) (b ∷ []) (percent_encode_byte b) h)

encoded-escaped : (test : ℕ → Bool) (b : ℕ) (bs : Text) → test b ≡ false → encoded test (b ∷ bs) ≡ percent_encode_byte b ++ encoded test bs
unfolding encoded
encoded-escaped test b bs h = ap (λ x. x ++ encoded test bs) (cond-false (test b) (b ∷ []) (percent_encode_byte b) h)

-- a set of characters of ASCII without `%`
pub record IsPlain (test : ℕ → Bool) : Type 0 where
  pub ascii : (c : ℕ) → test c ≡ true → is_ascii c ≡ true
  pub percent : test percent_sign ≡ false

-- an escape before a text leaves nothing owed
pub is_encoded-escape : (test : ℕ → Bool) (b : ℕ) (rest : Text) → is_encoded test (percent_encode_byte b ++ rest) ≡ is_encoded test rest
unfolding percent_encode_byte
is_encoded-escape test b rest =
    let high = digit_glyph true (b / 16 % 16) in
    let low = digit_glyph true (b % 16) in
    let first = glyph_hex (b / 16 % 16) (omega arith) in
    let second = glyph_hex (b % 16) (omega arith) in
    ap (λ o. is_encoded_after test o (high ∷ low ∷ rest)) (by_percent test percent_sign refl)
    ∙ ap (λ o. is_encoded_after test o (low ∷ rest)) (by_digit test 1 high ∙ cond-true _ _ _ first)
    ∙ ap (λ o. is_encoded_after test o rest) (by_digit test 0 low ∙ cond-true _ _ _ second)

module _ (test : ℕ → Bool) (plain : IsPlain test) where
  pub decoded-encoded : (bytes : Text) → All IsByte bytes → percent_decode (encoded test bytes) ≡ bytes
  decoded-encoded [] small = ap percent_decode (encoded-nil test) ∙ percent_decode-nil
  decoded-encoded (b ∷ bs) small = by (test b) refl (decoded-encoded bs (All-tail IsByte b bs small))
    where
      by : (kept : Bool) → test b ≡ kept → percent_decode (encoded test bs) ≡ bs → percent_decode (encoded test (b ∷ bs)) ≡ b ∷ bs
      by true e rest =
          ap percent_decode (encoded-kept test b bs e)
          ∙ percent_decode_not_percent b (encoded test bs) (λ same. true≢false (sym e ∙ ap test same ∙ plain.percent)) ∙ ap (λ x. b ∷ x) rest
      by false e rest =
          ap percent_decode (encoded-escaped test b bs e)
          ∙ percent_decode-percent_encode_byte b (encoded test bs) (All-head IsByte b bs small) ∙ ap (λ x. b ∷ x) rest

  ascii-encoded : (bytes : Text) → list_all is_ascii (encoded test bytes) ≡ true
  ascii-encoded [] = ap (list_all is_ascii) (encoded-nil test)
  ascii-encoded (b ∷ bs) = by (test b) refl (ascii-encoded bs)
    where
      by : (kept : Bool) → test b ≡ kept → list_all is_ascii (encoded test bs) ≡ true → list_all is_ascii (encoded test (b ∷ bs)) ≡ true
      by true e rest = ap (list_all is_ascii) (encoded-kept test b bs e) ∙ and_from _ _ (plain.ascii b e) rest
      by false e rest =
          ap (list_all is_ascii) (encoded-escaped test b bs e)
          ∙ list_all-append is_ascii (percent_encode_byte b) (encoded test bs) ∙ and_from _ _ (escape_ascii b) rest

  is_encoded-encoded : (bytes : Text) → is_encoded test (encoded test bytes) ≡ true
  is_encoded-encoded [] = ap (is_encoded test) (encoded-nil test)
  is_encoded-encoded (b ∷ bs) = by (test b) refl (is_encoded-encoded bs)
    where
      by : (kept : Bool) → test b ≡ kept → is_encoded test (encoded test bs) ≡ true → is_encoded test (encoded test (b ∷ bs)) ≡ true
      by true e rest = ap (is_encoded test) (encoded-kept test b bs e) ∙ take_char test plain.percent b (encoded test bs) e rest
      by false e rest = ap (is_encoded test) (encoded-escaped test b bs e) ∙ is_encoded-escape test b (encoded test bs) ∙ rest

  pub encoded-in : (bytes : Text) → InUtf8 (IsEncoded test) (encoded test bytes)
  encoded-in bytes =
      ascii_in_utf8 (IsEncoded test) (encoded test bytes) (ascii-encoded bytes)
      ((Decides-is_encoded test plain.percent (encoded test bytes)).0 (is_encoded-encoded bytes))

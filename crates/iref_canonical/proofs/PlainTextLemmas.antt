-- Texts without `%`: each is what it decodes to, and what it is when encoded, if it is ASCII or bytes beyond ASCII stand raw.
use Rattle.std.proofs.Common.{◌≡◌, ℕ, Bool, true, false, ◌&&◌, ◌||◌, List, [], ◌∷◌, ◌++◌, refl, sym, ◌∙◌, ap, subst, arith, not, ◌==◌, IsUtf8, chars, encode_utf8_all, true≢false}
use Rattle.std.proofs.{lemmas.Bool.{and_from, and_parts, not-true, or_right}, lemmas.Bool.Decides.{nat_tests}}
use Rattle.std.proofs.{lemmas.Grind.{common_steps}, lemmas.List.Folds.{list_all-append}, Math.Utf8.{scalar}}
use Rattle.std.proofs.lemmas.Str.{chars-encodes}
use Rattle.std.specs.{Char.{encode_utf8, is_ascii}, List.{list_all, join_with_byte}, Str.{all_scalars, is_utf8}}
use Rattle.percent_encoding.specs.Percent.{percent_sign, percent_decode}
use Rattle.iref_grammar.specs.{Rules.{Text}, Grammar.{is_not_percent}, Tests.{is_encoded, is_encoded_after, in_utf8}}
use Rattle.iref_grammar.proofs.{EncodedLemmas.{by_char, if_taken}, TextLemmas.{first_of_both, second_of_both}}
use Rattle.iref_grammar.proofs.{LackLemmas.{all_lacks}, Utf8RuleLemmas.{in_utf8-ascii}}
use Rattle.iref_grammar.specs.Mapping.{mapped}
use Rattle.iref_grammar.proofs.MappedLemmas.{ascii-mapped, mapped-escaped, mapped-kept}
use Rattle.iref_splice.specs.Fed.{is_unended}
use Rattle.iref_canonical.specs.{Canonical.{encoded, is_raw, stands}, Decoded.{are_standing, is_standing}}
use Rattle.iref_canonical.proofs.CanonicalPartLemmas.{decoded-lacks}
use Rattle.iref_canonical.proofs.EncodedTextLemmas.{encoded-nil, encoded-kept, is_encoded-escape}

percent_refused : (raw : Bool) → is_standing raw percent_sign ≡ false
percent_refused true = refl
percent_refused false = refl

pub standing-decoded : (raw : Bool) (text : Text) → are_standing raw text ≡ true → percent_decode text ≡ text
standing-decoded raw text h = decoded-lacks text (all_lacks (is_standing raw) percent_sign (percent_refused raw) text h)

-- ---- of UTF-8 no byte is 255

char_unended : (c : ℕ) → scalar c ≡ true → is_unended (encode_utf8 c) ≡ true
unfolding encode_utf8
char_unended c s = grind (arith, nat_tests)

utf8_unended : (text : Text) → all_scalars text ≡ true → is_unended (encode_utf8_all text) ≡ true
utf8_unended [] s = refl
utf8_unended (c ∷ cs) s = grind (arith, common_steps, char_unended, first_of_both, scalar, second_of_both, utf8_unended cs)

raw_byte : (b : ℕ) → not (b == 255) ≡ true → is_not_percent b ≡ is_standing true b
raw_byte b h = grind (arith, nat_tests)

raw_bytes : (text : Text) → is_unended text ≡ true → list_all is_not_percent text ≡ are_standing true text
raw_bytes [] h = refl
raw_bytes (b ∷ bs) h =
    let both = and_parts (not (b == 255)) (is_unended bs) h in
    λ i. raw_byte b both.0 i && raw_bytes bs both.1 i

pub raw_standing : (text : Text) → IsUtf8 text → list_all is_not_percent text ≡ are_standing true text
raw_standing text z = raw_bytes text (subst (λ t. is_unended t ≡ true) z.1.1 (utf8_unended z.0 z.1.0))

-- ---- encoded

-- an ASCII text has its bytes as characters
ascii-chars : (text : Text) → list_all is_ascii text ≡ true → chars text ≡ text
ascii-chars text h =
    let z = (in_utf8-ascii (λ u. u ≡ text) (λ u e. ap (list_all is_ascii) e ∙ h) text).1 refl in
    ap chars (sym z.2) ∙ chars-encodes z.0 z.1 ∙ z.3

-- what is not ASCII stands raw
beyond : (b low : Bool) → low ≡ false → (b || low) ≡ true → b ≡ true
beyond true low e h = refl
beyond false low e h = absurd (true≢false (sym h ∙ e))

pub passing-encoded : (test : ℕ → Bool) (text : Text) → list_all test text ≡ true → encoded test text ≡ text
passing-encoded test [] h = encoded-nil test
passing-encoded test (c ∷ cs) h =
    let both = and_parts (test c) (list_all test cs) h in
    encoded-kept test c cs both.0 ∙ ap (λ t. c ∷ t) (passing-encoded test cs both.1)

module _ (raw : Bool) (test : ℕ → Bool) where
  -- each character of the text's mapping passes, or is of an escape
  passing : (text : Text) → are_standing raw text ≡ true → is_encoded test (mapped text) ≡ true → list_all (stands raw test) text ≡ true
  passing [] h e = refl
  passing (c ∷ cs) h e = by (is_ascii c) refl (passing cs (and_parts (is_standing raw c) (are_standing raw cs) h).1)
    where
      here : (stands raw is_ascii c ≡ true) × (is_not_percent c ≡ true)
      here = and_parts (stands raw is_ascii c) (is_not_percent c) (and_parts (is_standing raw c) (are_standing raw cs) h).0

      by : (low : Bool) → is_ascii c ≡ low → (is_encoded test (mapped cs) ≡ true → list_all (stands raw test) cs ≡ true) → list_all (stands raw test) (c ∷ cs) ≡ true
      by true a rest =
          let taken = ap (is_encoded test) (sym (mapped-kept c cs a)) ∙ e in
          let t = if_taken test 0 (test c) (mapped cs) (ap (λ o. is_encoded_after test o (mapped cs)) (sym (by_char test c (not-true _ here.1))) ∙ taken) in
          and_from (stands raw test c) (list_all (stands raw test) cs) (or_right (raw && is_raw c) (test c) t.0) (rest t.1)
      by false a rest =
          let taken = sym (is_encoded-escape test c (mapped cs)) ∙ ap (is_encoded test) (sym (mapped-escaped c cs a)) ∙ e in
          let stays = ap (λ b. b || test c) (beyond (raw && is_raw c) (is_ascii c) a here.0) in
          and_from (stands raw test c) (list_all (stands raw test) cs) stays (rest taken)

  -- a text whose mapping is in a rule of characters and escapes
  pub standing-encoded : (text : Text) → are_standing raw text ≡ true → in_utf8 (is_encoded test) (mapped text) ≡ true → encoded (stands raw test) (percent_decode text) ≡ text
  standing-encoded text h e =
      let u = mapped text in
      let taken = ap (is_encoded test) (sym (ascii-chars u (ascii-mapped text))) ∙ (and_parts (is_utf8 u) (is_encoded test (chars u)) e).1 in
      ap (encoded (stands raw test)) (standing-decoded raw text h) ∙ passing-encoded (stands raw test) text (passing text h taken)

-- ---- what a text of such bytes is made of

pub standing-parts : (raw : Bool) (front back : Text) → are_standing raw (front ++ back) ≡ true → (are_standing raw front ≡ true) × (are_standing raw back ≡ true)
standing-parts raw front back h = and_parts _ _ (sym (list_all-append (is_standing raw) front back) ∙ h)

-- each piece of what is joined
pub joined-all : (test : ℕ → Bool) (mark : ℕ) (pieces : List Text) → list_all test (join_with_byte mark pieces) ≡ true → list_all (list_all test) pieces ≡ true
joined-all test mark [] h = refl
joined-all test mark (s ∷ []) h = and_from (list_all test s) true h refl
joined-all test mark (s ∷ t ∷ rest) h =
    let both = and_parts _ _ (sym (list_all-append test s (mark ∷ join_with_byte mark (t ∷ rest))) ∙ h) in
    and_from (list_all test s) (list_all (list_all test) (t ∷ rest)) both.0 (joined-all test mark (t ∷ rest) ((and_parts (test mark) _ both.1).1))

-- The mapping of texts, byte by byte.
use Rattle.std.proofs.Common.{◌≡◌, ℕ, ◌+◌, ◌*◌, ◌/◌, ◌%◌, ◌<◌, true, false, not, cond, [], ◌∷◌, ◌++◌, length, refl, ap, arith}
use Rattle.std.proofs.{Math.Logic.{◌↔◌}, lemmas.Bool.{cond-true, cond-false, and_from}, lemmas.Bool.Decides.{nat_tests}}
use Rattle.std.proofs.{lemmas.Grind.{common_steps, flat_map-append}, lemmas.List.Folds.{list_all-append}}
use Rattle.std.proofs.{lemmas.List.{length-append, length-set}, lemmas.List.Sums.{sum_by-cons}}
use Rattle.std.specs.{Char.{is_ascii}, Fmt.{digit_glyph}, List.{list_all}}
use Rattle.percent_encoding.specs.Percent.{percent_encode_byte}
use Rattle.iref_grammar.specs.Rules.{Text}
use Rattle.iref_grammar.proofs.TextLemmas.{first_of_both, second_of_both}
use Rattle.iref_grammar.specs.Mapping.{mapped_byte, mapped, count_escaped}

pub mapped-nil : mapped [] ≡ []
unfolding mapped
mapped-nil = refl

pub mapped-append : (front back : Text) → mapped (front ++ back) ≡ mapped front ++ mapped back
unfolding mapped
mapped-append front back = flat_map-append mapped_byte front back

-- one byte, of ASCII and above it
pub mapped_byte-ascii : (b : ℕ) → is_ascii b ≡ true → mapped_byte b ≡ b ∷ []
mapped_byte-ascii b h = cond-true (is_ascii b) (b ∷ []) (percent_encode_byte b) h

pub mapped_byte-above : (b : ℕ) → is_ascii b ≡ false → mapped_byte b ≡ percent_encode_byte b
mapped_byte-above b h = cond-false (is_ascii b) (b ∷ []) (percent_encode_byte b) h

-- and before others
pub mapped-kept : (b : ℕ) (bs : Text) → is_ascii b ≡ true → mapped (b ∷ bs) ≡ b ∷ mapped bs
unfolding mapped
mapped-kept b bs h = ap (λ x. x ++ mapped bs) (mapped_byte-ascii b h)

pub mapped-escaped : (b : ℕ) (bs : Text) → is_ascii b ≡ false → mapped (b ∷ bs) ≡ percent_encode_byte b ++ mapped bs
unfolding mapped
mapped-escaped b bs h = ap (λ x. x ++ mapped bs) (mapped_byte-above b h)

-- an escape is ASCII, of three characters
glyph_ascii : (d : ℕ) → d < 16 → is_ascii (digit_glyph true d) ≡ true
glyph_ascii d h = grind (arith, nat_tests)

pub escape_ascii : (b : ℕ) → list_all is_ascii (percent_encode_byte b) ≡ true
unfolding percent_encode_byte
escape_ascii b = and_from _ _ refl (and_from _ _ (glyph_ascii (b / 16 % 16) (omega arith)) (and_from _ _ (glyph_ascii (b % 16) (omega arith)) refl))

pub length-escape : (b : ℕ) → length (percent_encode_byte b) ≡ 3
unfolding percent_encode_byte
length-escape b = refl

-- what is ASCII stays, and the mapping is ASCII
pub mapped-ascii : (text : Text) → list_all is_ascii text ≡ true → mapped text ≡ text
mapped-ascii [] h = mapped-nil
mapped-ascii (b ∷ bs) h = grind (arith, common_steps, mapped-kept, first_of_both, second_of_both, mapped-ascii bs)

pub ascii-mapped : (text : Text) → list_all is_ascii (mapped text) ≡ true
ascii-mapped [] = ap (list_all is_ascii) mapped-nil
ascii-mapped (b ∷ bs) = grind (arith, common_steps, mapped-kept, mapped-escaped, list_all-append, escape_ascii, ascii-mapped bs)

-- so nothing changes at the second time
pub mapped-mapped : (text : Text) → mapped (mapped text) ≡ mapped text
mapped-mapped text = mapped-ascii (mapped text) (ascii-mapped text)

-- each byte above ASCII takes two more
count_escaped-cons : (b : ℕ) (bs : Text) → count_escaped (b ∷ bs) ≡ cond (not (is_ascii b)) 1 0 + count_escaped bs
count_escaped-cons b bs = sum_by-cons (λ c. cond (not (is_ascii c)) 1 0) b bs

pub length-mapped : (text : Text) → length (mapped text) ≡ length text + 2 * count_escaped text
length-mapped [] = ap length mapped-nil
length-mapped (b ∷ bs) = grind (arith, common_steps, mapped-kept, count_escaped-cons, mapped-escaped, length-append, length-escape, length-mapped bs)

-- nothing is escaped exactly where all is ASCII
pub none_escaped : (text : Text) → (count_escaped text ≡ 0) ↔ (list_all is_ascii text ≡ true)
none_escaped [] = (λ h. refl, λ h. refl)
none_escaped (b ∷ bs) = grind (arith, common_steps, none_escaped bs)

pub ruleset lengths = (mapped_byte-above, length-escape, length-set)

-- The bytes of a text as sort keys hold them.
use Rattle.std.proofs.Common.{arith, ◌≡◌, ℕ, ◌+◌, ◌++◌, ◌∷◌, [], length, refl, sym, ◌∙◌, ap, true, length-append, map, option_map, Option, Some, None}
use Rattle.std.proofs.{lemmas.Grind.{common_steps, flat_map-append}, lemmas.Bool.Decides.{nat_tests}}
use Rattle.std.proofs.lemmas.List.{append-nil, map-append}
use Rattle.std.specs.{List.{flat_map}, Char.{to_ascii_lowercase}}
use Rattle.percent_encoding.specs.Percent.{percent_decode}
use Rattle.percent_encoding.proofs.PercentLemmas.{percent_decode_not_percent, percent_decode-nil}
use Rattle.iref_grammar.specs.{Authority.{AuthorityValue}, Rules.{Text}}
use Rattle.iref_canonical.specs.{SortKey.{sort_byte, sort_option, sort_text, sort_authority}, Decoded.{SplitsLast}}
use Rattle.iref_canonical.specs.SortBytes.{is_kept}

-- ---- the last byte is put first

sorted_last : (front : Text) (last : ℕ) → flat_map sort_byte (front ++ last ∷ []) ≡ flat_map sort_byte front ++ sort_byte last
sorted_last front last = flat_map-append sort_byte front (last ∷ []) ∙ ap (λ t. flat_map sort_byte front ++ t) (append-nil (sort_byte last))

pub last_split : (bytes : Text → Text) (text front : Text) (byte : ℕ) → SplitsLast bytes text front byte → flat_map sort_byte (bytes text) ≡ flat_map sort_byte (bytes front) ++ sort_byte byte
last_split bytes text front byte h = ap (flat_map sort_byte) h.split ∙ sorted_last (bytes front) byte

pub sort_text-is : (bytes : Text) → sort_text bytes ≡ flat_map sort_byte bytes ++ 0 ∷ []
unfolding sort_text
sort_text-is bytes = refl

-- ---- a part that stands

pub same_part : (part : Option Text) → option_map (λ t. t) part ≡ part
same_part None = refl
same_part (Some text) = refl

-- ---- kept texts

pub kept_sorted : (text : Text) → is_kept text ≡ true → sort_text text ≡ text ++ 0 ∷ []
unfolding sort_text
kept_sorted text h = ap (λ t. t ++ 0 ∷ []) (stand text h)
  where
    stand : (text : Text) → is_kept text ≡ true → flat_map sort_byte text ≡ text
    stand [] h = refl
    stand (b ∷ text) h = grind (arith, common_steps, nat_tests, stand text)

pub kept_decodes : (text : Text) → is_kept text ≡ true → percent_decode text ≡ text
kept_decodes [] h = percent_decode-nil
kept_decodes (b ∷ text) h = grind (arith, common_steps, nat_tests, percent_decode_not_percent b text, kept_decodes text)

pub kept_decoded : (text : Text) → is_kept text ≡ true → sort_text (percent_decode text) ≡ text ++ 0 ∷ []
kept_decoded text h = ap sort_text (kept_decodes text h) ∙ kept_sorted text h

pub ruleset kept = (kept_sorted, kept_decoded, length-append)

-- ---- lower case

lower_byte : (b : ℕ) → sort_byte (to_ascii_lowercase b) ≡ map to_ascii_lowercase (sort_byte b)
lower_byte b = grind (arith, nat_tests)

pub sort_text-lower : (text : Text) → sort_text (map to_ascii_lowercase text) ≡ map to_ascii_lowercase (sort_text text)
unfolding sort_text
sort_text-lower text = ap (λ t. t ++ 0 ∷ []) (lower text) ∙ sym (map-append to_ascii_lowercase (flat_map sort_byte text) (0 ∷ []))
  where
    lower : (text : Text) → flat_map sort_byte (map to_ascii_lowercase text) ≡ map to_ascii_lowercase (flat_map sort_byte text)
    lower [] = refl
    lower (b ∷ text) = (λ i. lower_byte b i ++ lower text i) ∙ sym (map-append to_ascii_lowercase (sort_byte b) (flat_map sort_byte text))

pub length-sort_authority : (a : AuthorityValue)
    → length (sort_authority a) ≡ length (sort_option sort_text a.user_info) + length (sort_text a.host) + length (sort_option sort_text a.port)
unfolding sort_authority
length-sort_authority a = grind (arith, length-append)

-- a scheme that may not be there
pub option-lower : (scheme : Option Text) → sort_option sort_text (option_map (map to_ascii_lowercase) scheme) ≡ map to_ascii_lowercase (sort_option sort_text scheme)
option-lower None = refl
option-lower (Some text) = ap (λ t. 1 ∷ t) (sort_text-lower text)

pub ruleset last = (sort_text-is, last_split)

-- The mapping of the UTF-8 of a character.
use Rattle.std.proofs.{Common.{◌≡◌, ℕ, Bool, true, false, not, All, [], ◌∷◌, arith, encode_utf8_all}, lemmas.Grind.{common_steps}}
use Rattle.std.proofs.{Math.Utf8.{scalar}, lemmas.List.Elements.{All-nil}, lemmas.Bool.{not-true}}
use Rattle.std.specs.{List.{list_all, flat_map}, Char.{is_ascii, encode_utf8}}
use Rattle.std.specs.Str.{all_scalars}
use Rattle.percent_encoding.specs.Percent.{percent_encode_byte}
use Rattle.percent_encoding.proofs.PercentLemmas.{IsByte}
use Rattle.iref_grammar.specs.Rules.{Text}
use Rattle.iref_grammar.proofs.TextLemmas.{first_of_both, second_of_both}
use Rattle.iref_grammar.specs.Mapping.{mapped}
use Rattle.iref_grammar.proofs.MappedLemmas.{mapped-nil, mapped-escaped}

abbrev pub is_above : ℕ → Bool
is_above b = not (is_ascii b)

-- the bytes of a character are bytes
pub char_bytes : (c : ℕ) → scalar c ≡ true → All IsByte (encode_utf8 c)
unfolding encode_utf8
char_bytes c s = grind arith

pub utf8_bytes : (text : Text) → all_scalars text ≡ true → All IsByte (encode_utf8_all text)
utf8_bytes [] s = All-nil IsByte
utf8_bytes (c ∷ cs) s = grind (arith, common_steps, char_bytes, first_of_both, scalar, second_of_both, utf8_bytes cs)

-- those of a character above ASCII are above it
pub char_above : (c : ℕ) → is_ascii c ≡ false → list_all is_above (encode_utf8 c) ≡ true
unfolding encode_utf8
char_above c h = grind arith

-- and each is escaped
pub mapped-above : (bytes : Text) → list_all is_above bytes ≡ true → mapped bytes ≡ flat_map percent_encode_byte bytes
mapped-above [] h = mapped-nil
mapped-above (b ∷ bs) h = grind (arith, common_steps, mapped-escaped, not-true, first_of_both, second_of_both, mapped-above bs)

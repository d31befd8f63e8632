-- The mapping leaves the delimiters of the grammar where they are, and empty texts empty.
use Rattle.std.proofs.Common.{◌≡◌, ℕ, ◌<◌, true, false, not, ◌||◌, List, [], ◌∷◌, ◌++◌, map, refl, ap, arith, ◌==◌, Option, option_map, is_some, if◌then◌else◌}
use Rattle.std.proofs.{lemmas.Grind.{common_steps}, lemmas.Bool.Decides.{nat_tests}}
use Rattle.std.specs.{Char.{is_ascii, is_ascii_hexdigit, char_set_contains}, Fmt.{digit_glyph}}
use Rattle.percent_encoding.specs.Percent.{percent_sign, percent_encode_byte}
use Rattle.iref_grammar.specs.{declared.context.PathContext.{PathContext}, Rules.{Text}, Grammar.{colon}}
use Rattle.iref_grammar.specs.{Texts.{is_empty}, PathValue.{PathValue, begins_empty, is_one_empty, shows_its_list}}
use Rattle.iref_grammar.specs.Contexts.{begins_with_colon_segment, follows_authority, reads_as_path}
use Rattle.iref_grammar.specs.Reference.{ReferenceValue, context_of}
use Rattle.iref_grammar.specs.Mapping.{mapped, mapped_authority, mapped_path, mapped_reference}
use Rattle.iref_grammar.proofs.MappedLemmas.{mapped-nil, mapped-kept, mapped-escaped}

-- no delimiter of an escape: neither `%` nor a hexadecimal digit
pub record IsOutsideEscapes (mark : ℕ) : Type 0 where
  pub percent : (percent_sign == mark) ≡ false
  pub digit : is_ascii_hexdigit mark ≡ false

pub colon_outside : IsOutsideEscapes colon
colon_outside = record { percent = refl; digit = refl }

pub glyph_hex : (d : ℕ) → d < 16 → is_ascii_hexdigit (digit_glyph true d) ≡ true
glyph_hex d h = grind (arith, nat_tests)

contains-escape : (mark b : ℕ) (bs : Text) → IsOutsideEscapes mark → char_set_contains (percent_encode_byte b ++ bs) mark ≡ char_set_contains bs mark
unfolding percent_encode_byte
contains-escape mark b bs m = grind (arith, common_steps)

-- a byte above ASCII is no delimiter
pub above_other : (mark b : ℕ) → is_ascii mark ≡ true → is_ascii b ≡ false → (b == mark) ≡ false
above_other mark b h k = grind arith

-- the mapping holds a delimiter where the text does
pub contains-mapped : (mark : ℕ) → is_ascii mark ≡ true → IsOutsideEscapes mark → (text : Text) → char_set_contains (mapped text) mark ≡ char_set_contains text mark
contains-mapped mark a m [] = ap (λ t. char_set_contains t mark) mapped-nil
contains-mapped mark a m (b ∷ bs) = grind (arith, common_steps, mapped-kept, mapped-escaped, contains-escape, above_other, contains-mapped mark a m bs)

-- ---- empty texts

begins-escape : (b : ℕ) (t : Text) → is_empty (percent_encode_byte b ++ t) ≡ false
unfolding percent_encode_byte
begins-escape b t = refl

pub is_empty-mapped : (text : Text) → is_empty (mapped text) ≡ is_empty text
is_empty-mapped [] = ap is_empty mapped-nil
is_empty-mapped (b ∷ bs) = grind (arith, common_steps, mapped-kept, mapped-escaped, begins-escape)

pub is_empty-map : (ss : List Text) → is_empty (map mapped ss) ≡ is_empty ss
is_empty-map ss = grind arith

pub begins_empty-map : (ss : List Text) → begins_empty (map mapped ss) ≡ begins_empty ss
begins_empty-map ss = grind (arith, is_empty-mapped)

pub is_one_empty-map : (ss : List Text) → is_one_empty (map mapped ss) ≡ is_one_empty ss
is_one_empty-map ss = grind (arith, is_empty-mapped, is_empty-map)

begins_with_colon-map : (ss : List Text) → begins_with_colon_segment (map mapped ss) ≡ begins_with_colon_segment ss
begins_with_colon-map [] = refl
begins_with_colon-map (s ∷ ss) = contains-mapped colon refl colon_outside s

-- ---- where a path may stand

pub shows_its_list-mapped : (p : PathValue) → shows_its_list (mapped_path p) ≡ shows_its_list p
shows_its_list-mapped p = λ i. if p.absolute then not (is_one_empty-map p.segments i) else not (begins_empty-map p.segments i)

pub follows_authority-mapped : (context : PathContext) (p : PathValue) → follows_authority context (mapped_path p) ≡ follows_authority context p
follows_authority-mapped context p = λ i. not context.has_authority || p.absolute || is_empty-map p.segments i

pub reads_as_path-mapped : (context : PathContext) (p : PathValue) → reads_as_path context (mapped_path p) ≡ reads_as_path context p
reads_as_path-mapped context p = grind (arith, common_steps, shows_its_list-mapped, begins_empty-map, begins_with_colon-map)

pub is_some-map : {A B : Type 0} (f : A → B) (o : Option A) → is_some (option_map f o) ≡ is_some o
is_some-map f o = grind arith

pub context_of-mapped : (r : ReferenceValue) → context_of (mapped_reference r) ≡ context_of r
context_of-mapped r = λ i. record { has_scheme = is_some-map mapped r.scheme i; has_authority = is_some-map mapped_authority r.authority i }

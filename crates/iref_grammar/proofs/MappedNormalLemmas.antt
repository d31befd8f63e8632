-- The normal list of a mapped path is the mapped normal list.
use Rattle.std.proofs.Common.{arith, ◌≡◌, ℕ, zero, suc, ◌/◌, ◌%◌, Bool, true, false, not, ◌&&◌, List, [], ◌∷◌, ◌++◌, map, refl, sym, ◌∙◌, ap, ◌==◌, bytes_eq, codes, replicate, if◌then◌else◌}
use Rattle.std.proofs.{lemmas.Grind.{common_steps}, lemmas.List.{map-append}, lemmas.Bool.{not-true}}
use Rattle.std.specs.{List.{list_all}, Char.{is_ascii}, Fmt.{digit_glyph}}
use Rattle.percent_encoding.specs.Percent.{percent_sign, percent_encode_byte}
use Rattle.iref_grammar.specs.{Rules.{Text}, PathValue.{PathValue, is_one_empty}}
use Rattle.iref_grammar.proofs.TextLemmas.{first_of_both, second_of_both}
use Rattle.iref_grammar.specs.NormalList.{is_dot, is_dot_dot, is_name, stays_before, staying_names, excess, ends_in_dots, closed, without_lone_empty, kept_segments, normal_segments, counted, open_parents}
use Rattle.iref_grammar.specs.Mapping.{mapped, mapped_path}
use Rattle.iref_grammar.proofs.NormalLemmas.{stays_before-is, excess-is}
use Rattle.iref_grammar.proofs.MappedLemmas.{mapped-nil, mapped-kept, mapped-escaped, mapped-ascii}
use Rattle.iref_grammar.proofs.MappedMarkLemmas.{above_other, is_empty-map, is_one_empty-map}

escape-nil : (b : ℕ) (t : Text) → bytes_eq (percent_encode_byte b ++ t) [] ≡ false
unfolding percent_encode_byte
escape-nil b t = refl

-- ---- comparison with a text of ASCII that has no `%`

abbrev is_plain : ℕ → Bool
is_plain c = is_ascii c && not (percent_sign == c)

escape-other : (b c : ℕ) (t cs : Text) → (percent_sign == c) ≡ false → bytes_eq (percent_encode_byte b ++ t) (c ∷ cs) ≡ false
unfolding percent_encode_byte
escape-other b c t cs h = λ i. h i && bytes_eq (digit_glyph true (b / 16 % 16) ∷ digit_glyph true (b % 16) ∷ t) cs

same-mapped : (s t : Text) → list_all is_plain t ≡ true → bytes_eq (mapped s) t ≡ bytes_eq s t
same-mapped [] t h = ap (λ u. bytes_eq u t) mapped-nil
same-mapped (b ∷ bs) [] h = grind (arith, common_steps, mapped-kept, mapped-escaped, escape-nil)
same-mapped (b ∷ bs) (c ∷ cs) h = grind (arith, common_steps, second_of_both, first_of_both, mapped-kept, mapped-escaped, escape-other, not-true, above_other, same-mapped bs cs)

-- ---- dot segments

is_dot-mapped : (s : Text) → is_dot (mapped s) ≡ is_dot s
is_dot-mapped s = same-mapped s (codes ".") refl

is_dot_dot-mapped : (s : Text) → is_dot_dot (mapped s) ≡ is_dot_dot s
is_dot_dot-mapped s = same-mapped s (codes "..") refl

is_name-mapped : (s : Text) → is_name (mapped s) ≡ is_name s
is_name-mapped s = λ i. not (is_dot-mapped s i) && not (is_dot_dot-mapped s i)

open_parents-map : (ss : List Text) → open_parents (map mapped ss) ≡ open_parents ss
open_parents-map [] = refl
open_parents-map (s ∷ ss) = λ i. counted (is_dot_dot-mapped s i) (is_name-mapped s i) (open_parents-map ss i)

stays_before-map : (ss : List Text) → stays_before (map mapped ss) ≡ stays_before ss
stays_before-map ss = stays_before-is (map mapped ss) ∙ ap (λ n. n == 0) (open_parents-map ss) ∙ sym (stays_before-is ss)

excess-map : (ss : List Text) → excess (map mapped ss) ≡ excess ss
excess-map ss = excess-is (map mapped ss) ∙ open_parents-map ss ∙ sym (excess-is ss)

-- ---- the lists of the definition

pub map-if : {A B : Type 0} (f : A → B) (b : Bool) (xs ys : List A) → (if b then map f xs else map f ys) ≡ map f (if b then xs else ys)
map-if f b xs ys = grind arith

pub staying_names-map : (ss : List Text) → staying_names (map mapped ss) ≡ map mapped (staying_names ss)
unfolding staying_names
staying_names-map [] = refl
staying_names-map (s ∷ ss) = grind (arith, common_steps, is_name-mapped, stays_before-map, map-if, staying_names-map ss)

pub parents-map : (n : ℕ) → replicate n (codes "..") ≡ map mapped (replicate n (codes ".."))
parents-map zero = refl
parents-map (suc n) = λ i. sym (mapped-ascii (codes "..") refl) i ∷ parents-map n i

ends_in_dots-map : (ss : List Text) → ends_in_dots (map mapped ss) ≡ ends_in_dots ss
ends_in_dots-map [] = refl
ends_in_dots-map (s ∷ ss) = λ i. if is_empty-map ss i then not (is_name-mapped s i) else ends_in_dots-map ss i

closed-map : (ss : List Text) → closed (map mapped ss) ≡ map mapped (closed ss)
closed-map [] = refl
closed-map (s ∷ ss) = ap (λ t. mapped s ∷ (map mapped ss ++ t ∷ [])) (sym mapped-nil) ∙ sym (map-append mapped (s ∷ ss) ([] ∷ []))

without_lone_empty-map : (ss : List Text) → without_lone_empty (map mapped ss) ≡ map mapped (without_lone_empty ss)
without_lone_empty-map ss = (λ i. if is_one_empty-map ss i then [] else map mapped ss) ∙ map-if mapped (is_one_empty ss) [] ss

kept_segments-map : (p : PathValue) → kept_segments (mapped_path p) ≡ map mapped (kept_segments p)
kept_segments-map p = grind (arith, common_steps, excess-map, staying_names-map, parents-map, map-if)

pub normal_segments-map : (p : PathValue) → normal_segments (mapped_path p) ≡ map mapped (normal_segments p)
unfolding normal_segments
normal_segments-map p = grind (arith, common_steps, ends_in_dots-map, kept_segments-map, closed-map, map-if, without_lone_empty-map)

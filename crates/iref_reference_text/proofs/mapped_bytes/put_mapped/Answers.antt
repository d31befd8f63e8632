use Rattle.std.proofs.Common.{◌≡◌, false, ◌<◌, ◌≤◌, ◌+◌, ◌∷◌, [], ◌++◌, length, get_or, set, take, drop, ℕ, ap, sym, ◌∙◌, refl, arith, take-append-drop, append_assoc}
use Rattle.std.proofs.{lemmas.Grind.{common_steps}, lemmas.List.{take_more_set, drop-set-lt, length-set}}
use Rattle.std.specs.Char.{is_ascii}
use Rattle.percent_encoding.specs.Percent.{percent_encode_byte}
use Rattle.iref_grammar.specs.Rules.{Text}
use Rattle.iref_grammar.specs.Mapping.{mapped_byte}
use Rattle.iref_grammar.proofs.MappedLemmas.{mapped_byte-ascii, mapped_byte-above, length-escape}
use Rattle.iref_reference_text.proofs.mapped_bytes.put_mapped.Goals as goal

-- one byte written
set-parts : (xs : Text) (i n y : ℕ) → i < length xs → i + 1 ≡ n → set xs i y ≡ take i xs ++ (y ∷ []) ++ drop n xs
set-parts xs i n y h e =
    sym (take-append-drop (i + 1) (set xs i y)) ∙ (λ j. take_more_set xs i y h j ++ drop-set-lt (i + 1) xs i y (omega arith) j) ∙ ap (λ m. take i xs ++ (y ∷ []) ++ drop m xs) e

-- three bytes written
module _ (xs : Text) (i n x y z : ℕ) (within : n ≤ length xs) (end : i + 3 ≡ n) where
  set_twice : Text
  set_twice = set (set xs i x) (i + 1) y

  long : length set_twice ≡ length xs
  unfolding set_twice
  long = simp length-set refl

  front : take (i + 2) set_twice ≡ take i xs ++ (x ∷ []) ++ (y ∷ [])
  unfolding set_twice
  front =
      let one = length-set xs i x in
      ap (λ m. take m (set (set xs i x) (i + 1) y)) (omega arith) ∙ take_more_set (set xs i x) (i + 1) y (omega arith) ∙ ap (λ t. t ++ (y ∷ [])) (take_more_set xs i x (omega arith))

  back : drop n set_twice ≡ drop n xs
  unfolding set_twice
  back = drop-set-lt n (set xs i x) (i + 1) y (omega arith) ∙ drop-set-lt n xs i x (omega arith)

  set_three : set (set (set xs i x) (i + 1) y) (i + 2) z ≡ take i xs ++ (x ∷ y ∷ z ∷ []) ++ drop n xs
  unfolding set_twice
  set_three =
      let l = long in
      set-parts (set (set xs i x) (i + 1) y) (i + 2) n z (omega arith) (omega arith) ∙ (λ j. front j ++ (z ∷ []) ++ back j) ∙ simp append_assoc

-- an escape by its places
by_places : (b : ℕ) → percent_encode_byte b ≡ get_or (percent_encode_byte b) 0 0 ∷ get_or (percent_encode_byte b) 1 0 ∷ get_or (percent_encode_byte b) 2 0 ∷ []
unfolding percent_encode_byte
by_places b = refl

mapped-places : (b : ℕ) (escape : Text) → is_ascii b ≡ false → escape ≡ percent_encode_byte b → get_or escape 0 0 ∷ get_or escape 1 0 ∷ get_or escape 2 0 ∷ [] ≡ mapped_byte b
mapped-places b escape above e =
    ap (λ t. get_or t 0 0 ∷ get_or t 1 0 ∷ get_or t 2 0 ∷ []) e ∙ sym (by_places b) ∙ sym (mapped_byte-above b above)

long-above : (b : ℕ) → is_ascii b ≡ false → length (mapped_byte b) ≡ 3
long-above b h = ap length (mapped_byte-above b h) ∙ length-escape b

pub returns-else-is_ascii-clause-written : goal.returns-else-is_ascii-clause-written
returns-else-is_ascii-clause-written c = grind (arith, common_steps, mapped-places, set_three, long-above, long)

pub returns-then-is_ascii-clause-written : goal.returns-then-is_ascii-clause-written
returns-then-is_ascii-clause-written c = grind (arith, common_steps, mapped_byte-ascii, set-parts, long)

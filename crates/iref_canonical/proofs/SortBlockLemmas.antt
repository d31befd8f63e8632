-- Segments put in blocks of 16 bytes, each up to its first slash.
use Rattle.std.proofs.Common.{arith, false, ◌&&◌, ◌||◌, get_or, get_or-drop, get_or-take, ⊎_elim, ◌≡◌, ℕ, zero, suc, ◌+◌, ◌-◌, ◌<◌, ◌≤◌, ◌++◌, ◌∷◌, [], length, take, drop, refl, sym, ◌∙◌, ap, subst, append_assoc, length-append, length-drop, length-take, take-append-drop, ◌==◌}
use Rattle.std.proofs.{lemmas.Bool.{cases_lt}, lemmas.Bool.Decides.{nat_tests}}
use Rattle.std.proofs.lemmas.Grind.{common_steps, flat_map-append}
use Rattle.std.proofs.{lemmas.List.{append-nil, drop-drop, take-take, take_at}, Math.Seq.{take-add}}
use Rattle.std.specs.{Char.{char_set_contains}, List.{position_or_len}}
use Rattle.iref_grammar.specs.{Grammar.{slash}, Rules.{Text}}
use Rattle.iref_parse.specs.Dots.{begins_with_dot, has_dotted_segment, is_slash_dot}
use Rattle.iref_parse.proofs.{DotSegmentLemmas.{dots_by_pairs}, PairLemmas.{no_pair}}
use Rattle.iref_canonical.specs.SortPuts.{Puts, segment_byte, segment_bytes}

abbrev pub first_slash : Text → ℕ
first_slash text = position_or_len (char_set_contains (slash ∷ [])) text

-- the bytes before the first slash stand as they are
no_slash : (n : ℕ) (t : Text) → n ≤ first_slash t → segment_bytes (take n t) ≡ take n t
no_slash zero t h = grind (arith, common_steps)
no_slash (suc n) [] h = refl
no_slash (suc n) (c ∷ cs) h = grind (arith, nat_tests, no_slash n cs)

first_within : (t : Text) → first_slash t ≤ length t
first_within [] = omega arith
first_within (c ∷ cs) = grind (arith, nat_tests, first_within cs)

slash_at : (t : Text) → first_slash t < length t → drop (first_slash t) t ≡ slash ∷ drop (first_slash t + 1) t
slash_at [] h = grind arith
slash_at (c ∷ cs) h = grind (arith, nat_tests, common_steps, slash_at cs)

-- a slash among the first bytes is the first of all
first_same : (n : ℕ) (t : Text) → first_slash (take n t) < length (take n t) → first_slash t ≡ first_slash (take n t)
first_same zero t h = grind (arith, common_steps)
first_same (suc n) [] h = refl
first_same (suc n) (c ∷ cs) h = grind (arith, nat_tests, first_same n cs)

-- a block that is stored
pub stored : (at k count : ℕ) (block old new : Text) → k ≡ length block → at + length block ≤ length old → count ≤ length block
    → new ≡ take at old ++ (block ++ drop k (drop at old)) → Puts at (take count block) old new (at + count)
stored at k count block old new same room most e =
    let parts = ap (λ t. take at old ++ (t ++ drop k (drop at old))) (sym (take-append-drop count block)) in
    let moved = ap (λ t. take at old ++ t) (append_assoc (take count block) (drop count block) (drop k (drop at old))) ∙ sym (append_assoc (take at old) (take count block) (drop count block ++ drop k (drop at old))) in
    record {
      range = grind (arith, length-take);
      written = ap (take (at + count)) (e ∙ parts ∙ moved) ∙ take_at (take at old ++ take count block) (drop count block ++ drop k (drop at old)) (at + count) (grind (arith, length-append, length-take));
      len = grind (arith, length-append, length-take, length-drop);
    }

-- ---- one block

abbrev pub block : ℕ → Text → Text
block from bytes = take (from + 16 - from) (drop from bytes)

abbrev pub found : ℕ → Text → ℕ
found from bytes = first_slash (block from bytes)

module _ (bytes : Text) (from : ℕ) (long : from + 16 ≤ length bytes) where
  is : block from bytes ≡ take 16 (drop from bytes)
  is = let sum : from + 16 - from ≡ 16 = omega arith in ap (λ n. take n (drop from bytes)) sum

  size : length (block from bytes) ≡ 16
  size = ap length is ∙ grind (arith, length-take, length-drop)

  pub found_within : found from bytes ≤ 16
  found_within = omega (arith, first_within (block from bytes), size)

  plain : (k : ℕ) → k ≤ found from bytes → segment_bytes (take k (drop from bytes)) ≡ take k (block from bytes)
  plain k h =
      let same = ap (take k) is ∙ take-take k 16 (drop from bytes) (omega (arith, found_within)) in
      ap segment_bytes (sym same) ∙ no_slash k (block from bytes) h

  module _ (len : ℕ) where
    pub last_is : len - from ≤ found from bytes → segment_bytes (take (len - from) (drop from bytes)) ≡ take (len - from) (block from bytes) ++ []
    last_is h = plain (len - from) h ∙ sym (append-nil (take (len - from) (block from bytes)))

    pub front_is : (k : ℕ) → k ≤ found from bytes → from + k ≤ len
        → segment_bytes (take (len - from) (drop from bytes)) ≡ take k (block from bytes) ++ segment_bytes (take (len - (from + k)) (drop (from + k) bytes))
    front_is k h l =
        let rest = len - (from + k) in
        let sum : len - from ≡ k + rest = omega arith in
        ap (λ n. segment_bytes (take n (drop from bytes))) sum ∙ ap segment_bytes (take-add k rest (drop from bytes))
        ∙ flat_map-append segment_byte (take k (drop from bytes)) (take rest (drop k (drop from bytes)))
        ∙ (λ i. plain k h i ++ segment_bytes (take rest (drop-drop k from bytes i)))

    pub slash_is : (f : ℕ) → f ≡ found from bytes → f < 16 → from + f < len
        → segment_bytes (take (len - from) (drop from bytes)) ≡ take f (block from bytes) ++ (0 ∷ 1 ∷ segment_bytes (take (len - (from + (f + 1))) (drop (from + (f + 1)) bytes)))
    slash_is f place e h =
        let rest = len - (from + (f + 1)) in
        let more : len - (from + f) ≡ suc rest = omega arith in
        let first : first_slash (drop from bytes) ≡ f = first_same 16 (drop from bytes) (subst (λ t. first_slash t < length t) is (omega (arith, place, size))) ∙ ap first_slash (sym is) ∙ sym place in
        let cut : drop f (drop from bytes) ≡ slash ∷ drop (f + 1) (drop from bytes) =
        subst (λ n. drop n (drop from bytes) ≡ slash ∷ drop (n + 1) (drop from bytes)) first (slash_at (drop from bytes) (omega (arith, first, length-drop from bytes))) in
        let next = sym (drop-drop f from bytes) ∙ cut ∙ ap (λ t. slash ∷ t) (drop-drop (f + 1) from bytes) in
        front_is f (omega arith) (omega arith) ∙ (λ i. take f (block from bytes) ++ segment_bytes (take (more i) (next i)))

-- ---- no segment begins with a dot

pub no_slash_before : (n k : ℕ) (t : Text) → k < first_slash (take n t) → (get_or t k 0 == slash) ≡ false
no_slash_before zero k t h = grind (arith, common_steps)
no_slash_before (suc n) k [] h = grind arith
no_slash_before (suc n) zero (c ∷ cs) h = grind (arith, nat_tests)
no_slash_before (suc n) (suc k) (c ∷ cs) h = no_slash_before n k cs (grind (arith, nat_tests))

-- before an index no dot follows a slash
abbrev pub IsDotlessBefore : ℕ → Text → Type 0
IsDotlessBefore n t = (k : ℕ) → k < n → is_slash_dot t k ≡ false

module _ (t : Text) (from : ℕ) (so_far : IsDotlessBefore from t) where
  -- and not in bytes before the first slash of a block
  pub dotless_block : (f count : ℕ) → f ≡ found from t → count ≤ f → IsDotlessBefore (from + count) t
  dotless_block f count e h k l = ⊎_elim (λ below. so_far k below) (λ behind.
      let same : from + (k - from) ≡ k = omega arith in
      let clear = no_slash_before (from + 16 - from) (k - from) (drop from t) (omega arith) in
      let here = ap (λ j. get_or t j 0 == slash) (sym same) ∙ ap (λ b. b == slash) (sym (get_or-drop from t (k - from) 0)) ∙ clear in
      grind (arith, nat_tests)) (cases_lt k from)

  -- nor at the slash, where no dot is next
  pub dotless_slash : (f : ℕ) → f ≡ found from t → (get_or t (from + (f + 1)) 0 == 0x2E) ≡ false → IsDotlessBefore (from + (f + 1)) t
  dotless_slash f e next k l = ⊎_elim (λ below. dotless_block f f e (omega arith) k below) (λ behind.
      let same : k ≡ from + f = omega arith in
      let after : from + (f + 1) ≡ k + 1 = omega arith in
      let dot = ap (λ j. get_or t j 0 == 0x2E) (sym after) ∙ next in
      grind (arith, nat_tests)) (cases_lt k (from + f))

pub dotless_text : (n : ℕ) (t : Text) → n ≤ length t → (get_or t 0 0 == 0x2E) ≡ false → ((k : ℕ) → k + 1 < n → is_slash_dot t k ≡ false) → has_dotted_segment (take n t) ≡ false
dotless_text n t long first none =
    let pairs = no_pair slash 0x2E (take n t) (λ k l.
    let within : k + 1 < n = grind (arith, length-take) in
    (λ i. (get_or-take n t k 0 (omega arith) i == slash) && (get_or-take n t (k + 1) 0 within i == 0x2E)) ∙ none k within) in
    dots_by_pairs (take n t) ∙ (λ i. begins n t long first i || pairs i)
  where
    begins : (n : ℕ) (t : Text) → n ≤ length t → (get_or t 0 0 == 0x2E) ≡ false → begins_with_dot (take n t) ≡ false
    begins zero t long first = grind (arith, common_steps)
    begins (suc n) [] long first = refl
    begins (suc n) (c ∷ cs) long first = first

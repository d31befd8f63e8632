-- The numbers that groups of an IPv6 address write.
use Rattle.std.proofs.Common.{◌≡◌, ◌≢◌, ℕ, ◌+◌, ◌-◌, ◌*◌, ◌^◌, ◌<◌, ◌≤◌, zero, suc, Bool, true, false, cond, List, [], ◌∷◌, ◌++◌, length, map, append_assoc, length-append, refl, sym, ◌∙◌, ap, arith, lit<, ◌⊎◌, ⊎_elim, ◌==◌, nat_le, fold, replicate, Option, Some, None, option_map, option_and_then, IfSome}
use Rattle.std.proofs.{Math.Nat.{pow-suc, pow-le-pow_right, mul-le-mul_right, one-le-pow}, lemmas.Nat.{pow-add}}
use Rattle.std.proofs.{lemmas.Bool.Decides.{nat_tests}, lemmas.List.{length-replicate}, lemmas.List.Sums.{fold-append}}
use Rattle.std.proofs.lemmas.List.Splits.{slice_split_first}
use Rattle.std.specs.List.{position_or_len, before_first, after_first}
use Rattle.iref_grammar.specs.{Rules.{Text}, Texts.{pieces_at, is_empty}}
use Rattle.iref_grammar.specs.IpAddresses.{number_of, all_some, group_value, one_group, groups_then, eight_groups, joined_groups, filled_groups}
use Rattle.iref_parse.specs.IpGroups.{counted, counted_after, filled_number}
use Rattle.iref_grammar.proofs.SliceLemmas.{pieces_at-whole}

-- ---- they fit

-- a number of groups, with others after it, is one of eight
placed : (count value : ℕ) → count ≤ 8 → value < 65536 ^ count → value * 65536 ^ (8 - count) + 65536 ^ (8 - count) ≤ 65536 ^ 8
placed count value few h =
    let eight : count + (8 - count) ≡ 8 = omega arith in
    let power : 65536 ^ count * 65536 ^ (8 - count) ≡ 65536 ^ 8 = sym (pow-add 65536 count (8 - count)) ∙ ap (λ n. 65536 ^ n) eight in
    let below : (value + 1) * 65536 ^ (8 - count) ≤ 65536 ^ count * 65536 ^ (8 - count) = mul-le-mul_right {m = value + 1} {n = 65536 ^ count} (65536 ^ (8 - count)) (omega arith) in
    omega (arith, below, power)

wider : (i j : ℕ) → i ≤ j → 65536 ^ i ≤ 65536 ^ j
wider i j h = pow-le-pow_right {n = 65536} (lit< tt) h

pub pushed_fits : (count value group : ℕ) → count ≤ 8 → count ≢ 8 → value < 65536 ^ count → group < 65536 → value * 65536 + group < 2 ^ 128
pushed_fits count value group few other h g =
    let room : 65536 ^ (count + 1) ≤ 65536 ^ 8 = wider (count + 1) 8 (omega arith) in
    let power : 65536 ^ (count + 1) ≡ 65536 ^ count * 65536 ^ 1 = pow-add 65536 count 1 in
    omega (arith, room, power)

pub room_fits : (count : ℕ) → count ≢ 0 → 65536 ^ (8 - count) < 2 ^ 128
room_fits count h = let some : 65536 ^ (8 - count) ≤ 65536 ^ 7 = wider (8 - count) 7 (omega arith) in omega arith

pub filled_fits : (count value end_count end : ℕ) → count + end_count ≤ 7 → value < 65536 ^ count → end < 65536 ^ end_count → value * 65536 ^ (8 - count) + end < 2 ^ 128
filled_fits count value end_count end few h k =
    let before = placed count value (omega arith) h in
    let after : 65536 ^ end_count ≤ 65536 ^ (8 - count) = wider end_count (8 - count) (omega arith) in
    omega (arith, before, after)

pub zeros_fit : (count value : ℕ) → count ≤ 8 → value < 65536 ^ count → value * 65536 ^ (8 - count) < 2 ^ 128
zeros_fit count value few h =
    let before = placed count value few h in
    let some : 1 ≤ 65536 ^ (8 - count) = one-le-pow (8 - count) 65536 (lit< tt) in
    omega (arith, before, some)

-- ---- they are what the pieces of a text stand for

-- one number more in front
abbrev pub more : ℕ → Option (List ℕ) → Option (List ℕ)
more n o = option_map (λ ns. n ∷ ns) o

-- a group more, and a ninth
counted-more : (count value n : ℕ) (o : Option (List ℕ)) → option_and_then (counted_after count value) (more n o) ≡ option_and_then (counted_after (count + 1) (65536 * value + n)) o
counted-more count value n None = refl
counted-more count value n (Some groups) =
    let same : count + suc (length groups) ≡ count + 1 + length groups = omega arith in
    λ i. cond (nat_le (same i) 8) (Some (same i, fold (λ m group. 65536 * m + group) (65536 * value + n) groups)) None

counted-ninth : (value n : ℕ) (o : Option (List ℕ)) → option_and_then (counted_after 8 value) (more n o) ≡ None
counted-ninth value n None = refl
counted-ninth value n (Some groups) = grind (arith, nat_tests)

abbrev is_colon : ℕ → Bool
is_colon c = c == 58

some_pieces : (mark : ℕ) (text : Text) → is_empty (pieces_at mark text) ≡ false
some_pieces mark [] = refl
some_pieces mark (c ∷ cs) = grind (arith, nat_tests)

module _ (last : Text → Option (List ℕ)) (count value : ℕ) (text : Text) where
  -- what the groups count to, after those that were read
  abbrev CountsTo : Option (ℕ × ℕ) → Type 0
  CountsTo o = option_and_then (counted_after count value) (groups_then last (pieces_at 58 text)) ≡ o

  pub read_last : position_or_len is_colon text ≡ length text → CountsTo (option_and_then (counted_after count value) (last text))
  read_last h = ap (λ ps. option_and_then (counted_after count value) (groups_then last ps)) (pieces_at-whole 58 text h)

  module _ (front back : Text) (found : position_or_len is_colon text < length text) (e : front ≡ before_first is_colon text) (f : back ≡ after_first is_colon text) where
    first : groups_then last (pieces_at 58 text) ≡ option_and_then (λ n. more n (groups_then last (pieces_at 58 back))) (group_value front)
    first = ap (groups_then last) (slice_split_first is_colon text 0 found)
        ∙ ap (λ b. cond b (last (before_first is_colon text)) (option_and_then (λ n. more n (groups_then last (pieces_at 58 (after_first is_colon text)))) (group_value (before_first is_colon text)))) (some_pieces 58 (after_first is_colon text))
        ∙ (λ i. option_and_then (λ n. more n (groups_then last (pieces_at 58 (sym f i)))) (group_value (sym e i)))

    pub read_refused : group_value front ≡ None → CountsTo None
    read_refused v = ap (option_and_then (counted_after count value)) (first ∙ ap (option_and_then (λ n. more n (groups_then last (pieces_at 58 back)))) v)

    module _ (n : ℕ) (v : group_value front ≡ Some n) where
      one : groups_then last (pieces_at 58 text) ≡ more n (groups_then last (pieces_at 58 back))
      one = first ∙ ap (option_and_then (λ m. more m (groups_then last (pieces_at 58 back)))) v

      pub read_ninth : count ≡ 8 → CountsTo None
      read_ninth h = (λ i. option_and_then (counted_after (h i) value) (one i)) ∙ counted-ninth value n (groups_then last (pieces_at 58 back))

      pub read_group : (next total : ℕ) → next ≡ count + 1 → total ≡ 65536 * value + n → CountsTo (option_and_then (counted_after next total) (groups_then last (pieces_at 58 back)))
      read_group next total g h = ap (option_and_then (counted_after count value)) one ∙ counted-more count value n (groups_then last (pieces_at 58 back)) ∙ (λ i. option_and_then (counted_after (sym g i) (sym h i)) (groups_then last (pieces_at 58 back)))

-- pieces that are all groups
pub groups_alone : (pieces : List Text) → all_some (map group_value pieces) ≡ groups_then one_group pieces
groups_alone [] = refl
groups_alone (p ∷ []) = grind (arith, nat_tests)
groups_alone (p ∷ q ∷ pieces) = ap (λ o. option_and_then (λ x. more x o) (group_value p)) (groups_alone (q ∷ pieces))

-- ---- the number of the address

-- what a count says of the groups
number_of_counted : (o : Option (List ℕ)) (count value : ℕ) → counted o ≡ Some (count, value) → (groups : List ℕ) × (o ≡ Some groups) × (count ≡ length groups) × (value ≡ number_of 65536 groups) × (length groups ≤ 8)
number_of_counted None count value h = cc
number_of_counted (Some groups) count value h = by (nat_le (0 + length groups) 8) refl h
  where
    by : (b : Bool) → nat_le (0 + length groups) 8 ≡ b → cond {A = Option (ℕ × ℕ)} b (Some (0 + length groups, number_of 65536 groups)) None ≡ Some (count, value)
        → (gs : List ℕ) × (Some groups ≡ Some gs) × (count ≡ length gs) × (value ≡ number_of 65536 gs) × (length gs ≤ 8)
    by true e k =
        let same : 0 + length groups ≡ count = ap (λ o. elim o as (λ p. ℕ) [ None ↦ 0 | Some x ↦ x.0 ]) k in
        let number : number_of 65536 groups ≡ value = ap (λ o. elim o as (λ p. ℕ) [ None ↦ 0 | Some x ↦ x.1 ]) k in
        (groups, refl, omega arith, sym number, grind (arith, nat_tests))
    by false e k = cc

too_many : (o : Option (List ℕ)) → counted o ≡ None → IfSome o (λ groups. 8 < length groups)
too_many None h = tt
too_many (Some groups) h = grind (arith, nat_tests)

pub full_none : (o : Option (List ℕ)) → counted o ≡ None → option_map (number_of 65536) (option_and_then eight_groups o) ≡ None
full_none None h = refl
full_none (Some groups) h = let many = too_many (Some groups) h in grind (arith, nat_tests)

pub full_eight : (o : Option (List ℕ)) (count value : ℕ) → counted o ≡ Some (count, value) → option_map (number_of 65536) (option_and_then eight_groups o) ≡ cond (count == 8) (Some value) None
full_eight o count value h =
    let z = number_of_counted o count value h in
    let same : (b : Bool) → option_map (number_of 65536) (cond b (Some z.0) None) ≡ cond b (Some (number_of 65536 z.0)) None = λ b. grind (arith, nat_tests) in
    ap (λ q. option_map (number_of 65536) (option_and_then eight_groups q)) z.1 ∙ same (length z.0 == 8) ∙ (λ i. cond (sym z.2 i == 8) (Some (sym z.3 i)) None)

-- the number of groups that follow others
number-after : (a : ℕ) (groups : List ℕ) → fold (λ n group. 65536 * n + group) a groups ≡ a * 65536 ^ length groups + number_of 65536 groups
number-after a [] = omega arith
number-after a (g ∷ groups) =
    let power = pow-suc 65536 (length groups) in
    number-after (65536 * a + g) groups ∙ sum (65536 ^ length groups) (65536 ^ suc (length groups)) power
    ∙ ap (λ n. a * 65536 ^ suc (length groups) + n) (sym (number-after (0 + g) groups))
  where
    sum : (p q : ℕ) → q ≡ p * 65536 → (65536 * a + g) * p + number_of 65536 groups ≡ a * q + ((0 + g) * p + number_of 65536 groups)
    sum p q e = rw e (omega arith)

number-append : (xs ys : List ℕ) → number_of 65536 (xs ++ ys) ≡ number_of 65536 xs * 65536 ^ length ys + number_of 65536 ys
number-append xs ys = fold-append (λ n group. 65536 * n + group) 0 xs ys ∙ number-after (number_of 65536 xs) ys

number-zeros : (n : ℕ) (groups : List ℕ) → number_of 65536 (replicate n 0 ++ groups) ≡ number_of 65536 groups
number-zeros zero groups = refl
number-zeros (suc n) groups = number-zeros n groups

number-filled : (start end : List ℕ) → length start + length end ≤ 7 → number_of 65536 (filled_groups start end) ≡ number_of 65536 start * 65536 ^ (8 - length start) + number_of 65536 end
number-filled start end h =
    let zeros = replicate (8 - length start - length end) 0 in
    let rest : 8 - length start - length end + length end ≡ 8 - length start = omega arith in
    let size : length (zeros ++ end) ≡ 8 - length start = length-append zeros end ∙ ap (λ n. n + length end) (length-replicate (8 - length start - length end) 0) ∙ rest in
    ap (number_of 65536) (append_assoc start zeros end) ∙ number-append start (zeros ++ end)
    ∙ (λ i. number_of 65536 start * 65536 ^ size i + number-zeros (8 - length start - length end) end i)

-- the number of what is read around `::`
abbrev pub around : Option (List ℕ) → Option (List ℕ) → Option ℕ
around start end = option_map (number_of 65536) (option_and_then (λ left. option_and_then (joined_groups left) end) start)

pub around_refused : (start end : Option (List ℕ)) → (counted start ≡ None) ⊎ (counted end ≡ None) → around start end ≡ None
around_refused None end h = refl
around_refused (Some xs) None h = refl
around_refused (Some xs) (Some ys) h =
    let many : 7 < length xs + length ys = ⊎_elim (λ e. let long = too_many (Some xs) e in omega arith) (λ e. let long = too_many (Some ys) e in omega arith) h in
    grind (arith, nat_tests)

pub around_filled : (start end : Option (List ℕ)) (start_count start_value end_count end_value : ℕ) → counted start ≡ Some (start_count, start_value) → counted end ≡ Some (end_count, end_value)
    → around start end ≡ filled_number start_count start_value end_count end_value
around_filled start end j v k w h g =
    let y = number_of_counted start j v h in
    let z = number_of_counted end k w g in
    (λ i. around (y.1 i) (z.1 i)) ∙ by y.0 z.0 (nat_le (length y.0 + length z.0) 7) refl
    ∙ (λ i. cond (nat_le (sym y.2 i + sym z.2 i) 7) (Some (sym y.3 i * 65536 ^ (8 - sym y.2 i) + sym z.3 i)) None)
  where
    by : (xs ys : List ℕ) (b : Bool) → nat_le (length xs + length ys) 7 ≡ b → option_map (number_of 65536) (cond b (Some (filled_groups xs ys)) None) ≡ cond b (Some (number_of 65536 xs * 65536 ^ (8 - length xs) + number_of 65536 ys)) None
    by xs ys true e = ap (λ n. Some n) (number-filled xs ys (grind (arith, nat_tests)))
    by xs ys false e = refl

pub ruleset reads = (read_last, read_refused, read_ninth, read_group)

-- The bits of texts.
use Rattle.std.proofs.Common.{arith, ◌⊎◌, inl, inr, ◌≡◌, ◌≢◌, ℕ, zero, suc, ◌+◌, ◌-◌, ◌*◌, ◌/◌, ◌%◌, ◌^◌, ◌<◌, ◌≤◌, true, false, [], ◌∷◌, ◌++◌, length, get_or, take, drop, refl, sym, ap, subst, ◌∙◌, ⊎_elim, nat_lt, nat_eq, ◌==◌}
use Rattle.std.proofs.{lemmas.Bool.{lt-ltb, le-ltb, ltb-true, ltb-false, cases_lt}, lemmas.Bool.Decides.{nat_tests}}
use Rattle.std.proofs.{lemmas.Grind.{common_steps}, lemmas.Nat.{shr-shr}}
use Rattle.std.proofs.lemmas.Nat.Bits.{same_from_bits_below, bit_at-lt, bit_at-zero}
use Rattle.std.proofs.lemmas.List.{drop_all, get_or-take, length-take, append-nil}
use Rattle.std.proofs.{lemmas.List.Sums.{common_prefix_len-le}, lemmas.List.Prefix.{front_from_reads}}
use Rattle.std.specs.{Int.{bit_at}, List.{common_prefix_len}, Cmp.Lexicographic.{bytes_decides}}
use Rattle.iref_grammar.specs.{Rules.{Text}, Texts.{begins_with}}
use Rattle.iref.specs.PrefixTree.{symbol, bit, SameBits, AreBytes}

pub same_bits_refl : (n : ℕ) (a : Text) → SameBits n a a
same_bits_refl n a = record { same = λ i l. refl }

pub same_bits_sym : {n : ℕ} {a b : Text} → SameBits n a b → SameBits n b a
same_bits_sym h = record { same = λ i l. sym (h.same i l) }

pub same_bits_trans : {n : ℕ} {a b c : Text} → SameBits n a b → SameBits n b c → SameBits n a c
same_bits_trans h k = record { same = λ i l. h.same i l ∙ k.same i l }

pub same_bits_less : {m : ℕ} (n : ℕ) {a b : Text} → n ≤ m → SameBits m a b → SameBits n a b
same_bits_less n l h = record { same = λ i k. h.same i (omega arith) }

pub same_bits_next : {n : ℕ} {a b : Text} → SameBits n a b → bit a n ≡ bit b n → SameBits (n + 1) a b
same_bits_next {n} {a} {b} h e = record { same = λ i l. ⊎_elim (h.same i) (λ above. let at : i ≡ n = omega arith in subst (λ j. bit a j ≡ bit b j) (sym at) e) (cases_lt i n) }

-- ---- symbols

-- the bit of a symbol
pub bit_of_symbol : (text : Text) (at shift : ℕ) → shift ≤ 8 → bit text (9 * at + (8 - shift)) ≡ (bit_at (symbol text at) shift == 1)
unfolding bit
bit_of_symbol text at shift l =
    let k : (9 * at + (8 - shift)) / 9 ≡ at = omega arith in
    let r : 8 - (9 * at + (8 - shift)) % 9 ≡ shift = omega arith in
    λ i. bit_at (symbol text (k i)) (r i) == 1

pub symbol_small : (text : Text) (at : ℕ) → symbol text at < 512
unfolding symbol
symbol_small text at = grind arith

pub symbol_behind : (text : Text) (at : ℕ) → length text ≤ at → symbol text at ≡ 0
unfolding symbol
symbol_behind text at l = grind (arith, nat_tests)

pub symbol_within : (text : Text) (at : ℕ) → at < length text → symbol text at ≡ 256 + get_or text at 0 % 256
unfolding symbol
symbol_within text at l = grind (arith, nat_tests)

-- texts of the same symbols have the same bits
pub same_symbols : (n : ℕ) (a b : Text) → ((k : ℕ) → k < n → symbol a k ≡ symbol b k) → SameBits (9 * n) a b
unfolding bit
same_symbols n a b h = record { same = λ i l. ap (λ s. bit_at s (8 - i % 9) == 1) (h (i / 9) (omega arith)) }

-- the bits of a symbol are those of a text
symbol_bit : (a b : Text) (k i : ℕ) → SameBits (9 * k + 9) a b → i ≤ 8 → (bit_at (symbol a k) i == 1) ≡ (bit_at (symbol b k) i == 1)
symbol_bit a b k i h l = sym (bit_of_symbol a k i l) ∙ h.same (9 * k + (8 - i)) (omega arith) ∙ bit_of_symbol b k i l

one_bit : (x y : ℕ) → x < 2 → y < 2 → (x == 1) ≡ (y == 1) → x ≡ y
one_bit x y l m h = grind (arith, nat_tests)

pub same_symbol : (a b : Text) (k : ℕ) → SameBits (9 * k + 9) a b → symbol a k ≡ symbol b k
same_symbol a b k h = same_from_bits_below 9 (symbol a k) (symbol b k) (symbol_small a k) (symbol_small b k)
    (λ i l. one_bit (bit_at (symbol a k) i) (bit_at (symbol b k) i) (bit_at-lt (symbol a k) i) (bit_at-lt (symbol b k) i) (symbol_bit a b k i h (omega arith)))

-- the first bit of a symbol says that the text goes on
pub goes_on : (text : Text) (k : ℕ) → bit text (9 * k) ≡ nat_lt k (length text)
goes_on text k = ap (bit text) (omega arith) ∙ bit_of_symbol text k 8 (omega arith)
    ∙ ⊎_elim (λ within. (let s = symbol_within text k within in omega_eq (symbol text k) (get_or text k 0) s) ∙ sym (lt-ltb k (length text) within))
    (λ behind. ap (λ s. bit_at s 8 == 1) (symbol_behind text k behind) ∙ sym (le-ltb k (length text) behind)) (cases_lt k (length text))
  where
    omega_eq : (s x : ℕ) → s ≡ 256 + x % 256 → (bit_at s 8 == 1) ≡ true
    omega_eq s x h = let one : bit_at s 8 ≡ 1 = omega arith in ap (λ b. b == 1) one

pub goes_within : {n : ℕ} (k : ℕ) {a b : Text} → SameBits n a b → 9 * k < n → k < length a → k < length b
goes_within k {a} {b} h l m = ltb-true k (length b) (sym (goes_on b k) ∙ sym (h.same (9 * k) l) ∙ goes_on a k ∙ lt-ltb k (length a) m)

-- what has the bits of a text is as long
pub as_long : (n : ℕ) (a b : Text) → n ≤ length a → SameBits (9 * n) a b → n ≤ length b
as_long zero a b l h = omega arith
as_long (suc n) a b l h = let m = goes_within n h (omega arith) (omega arith) in omega arith

-- what has the bits of a text, and of its end, is no longer
pub no_longer : {n : ℕ} (a : Text) {b : Text} → SameBits n a b → 9 * length a < n → length b ≤ length a
no_longer a {b} h l = ltb-false (length a) (length b) (sym (goes_on b (length a)) ∙ sym (h.same (9 * length a) l) ∙ goes_on a (length a) ∙ le-ltb (length a) (length a) (omega arith))

-- ---- bytes

pub same_byte : (a b : Text) (k : ℕ) → AreBytes a → AreBytes b → SameBits (9 * k + 9) a b → k < length a → k < length b → get_or a k 0 ≡ get_or b k 0
same_byte a b k p q h l m = omega (arith, same_symbol a b k h, symbol_within a k l, symbol_within b k m, p k, q k)

pub bits_begin : (a b : Text) → AreBytes a → AreBytes b → SameBits (9 * length a) a b → b ≡ a ++ drop (length a) b
bits_begin a b p q h =
    let long = as_long (length a) a b (omega arith) h in
    front_from_reads 0 b a long (λ i l. sym (same_byte a b i p q (same_bits_less (9 * i + 9) (omega arith) h) l (omega arith)))

-- a text is another one that has its bits, and that of its end
pub same_text : (a b : Text) → AreBytes a → AreBytes b → SameBits (9 * length a + 1) a b → a ≡ b
same_text a b p q h =
    let begun = bits_begin a b p q (same_bits_less (9 * length a) (omega arith) h) in
    let short = no_longer a h (omega arith) in
    sym (begun ∙ ap (λ t. a ++ t) (drop_all (length a) b short) ∙ append-nil a)

pub begins_by_bits : (a b : Text) → AreBytes a → AreBytes b → SameBits (9 * length a) a b → begins_with a b ≡ true
begins_by_bits a b p q h =
    let begun = bits_begin a b p q h in
    let front : a ≡ take (length a) b = sym (ap (take (length a)) begun ∙ grind (arith, common_steps)) in
    (bytes_decides a (take (length a) b)).1 front

pub bits_of_begun : (a b : Text) → begins_with a b ≡ true → SameBits (9 * length a) a b
bits_of_begun a b h =
    let front : a ≡ take (length a) b = (bytes_decides a (take (length a) b)).0 h in
    let short : length a ≤ length b = omega (arith, ap length front, length-take (length a) b) in
    same_symbols (length a) a b (λ k l. symbol_within a k l ∙ ap (λ x. 256 + x % 256) (ap (λ t. get_or t k 0) front ∙ get_or-take (length a) b k 0 l) ∙ sym (symbol_within b k (omega arith)))

-- ---- what two texts have in common

common_reads : (a b : Text) (k : ℕ) → k < common_prefix_len nat_eq a b → get_or a k 0 ≡ get_or b k 0
common_reads [] b k l = absurd (omega arith)
common_reads (x ∷ a) [] k l = absurd (omega arith)
common_reads (x ∷ a) (y ∷ b) zero l = grind (arith, nat_tests)
common_reads (x ∷ a) (y ∷ b) (suc k) l = grind (arith, nat_tests, common_reads a b k)

common_stops : (a b : Text) (n : ℕ) → n ≡ common_prefix_len nat_eq a b → n < length a → n < length b → get_or a n 0 ≢ get_or b n 0
common_stops [] b n e l m = absurd (omega arith)
common_stops (x ∷ a) [] n e l m = absurd (omega arith)
common_stops (x ∷ a) (y ∷ b) zero e l m = λ h. grind (arith, nat_tests)
common_stops (x ∷ a) (y ∷ b) (suc n) e l m = λ h. grind (arith, nat_tests, common_stops a b n)

pub common_bits : (a b : Text) (n : ℕ) → n ≡ common_prefix_len nat_eq a b → SameBits (9 * n) a b
common_bits a b n e =
    let short = common_prefix_len-le nat_eq a b in
    same_symbols n a b (λ k l. symbol_within a k (omega (arith, e, short.0)) ∙ ap (λ x. 256 + x % 256) (common_reads a b k (omega (arith, e))) ∙ sym (symbol_within b k (omega (arith, e, short.1))))

-- the symbols behind what is in common differ, unless both texts end there
pub symbols_differ : (a b : Text) (n : ℕ) → AreBytes a → AreBytes b → n ≡ common_prefix_len nat_eq a b → n < length a ⊎ n < length b → symbol a n ≢ symbol b n
symbols_differ a b n p q e within same = elim (cases_lt n (length a)) [
  | inl l ↦ elim (cases_lt n (length b)) [
    | inl m ↦ common_stops a b n e l m (omega (arith, same, symbol_within a n l, symbol_within b n m, p n, q n))
    | inr m ↦ omega (arith, same, symbol_within a n l, symbol_behind b n m)
  ]
  | inr l ↦ elim (cases_lt n (length b)) [
    | inl m ↦ omega (arith, same, symbol_behind a n l, symbol_within b n m)
    | inr m ↦ elim within [ inl j ↦ absurd (omega arith) | inr j ↦ absurd (omega arith) ]
  ]
]

-- what has as many bits of a text has as many of its bytes
pub common_upto : (q : ℕ) (a b : Text) → AreBytes a → AreBytes b → q ≤ length a → SameBits (9 * q) a b → q ≤ common_prefix_len nat_eq a b
common_upto q a b p r l h = elim (cases_lt (common_prefix_len nat_eq a b) q) [
  | inl less ↦ absurd (symbols_differ a b (common_prefix_len nat_eq a b) p r refl (inl (omega arith)) (same_symbol a b (common_prefix_len nat_eq a b) (same_bits_less (9 * common_prefix_len nat_eq a b + 9) (omega arith) h)))
  | inr more ↦ more
]

-- ---- the first bit by which two symbols differ

pub halves : (x s : ℕ) → x / 2 ^ s / 2 ≡ x / 2 ^ (s + 1)
halves x s = shr-shr x s 1

last_bit : (x y : ℕ) → x / 2 ≡ y / 2 → x ≢ y → (x % 2 == 1) ≢ (y % 2 == 1)
last_bit x y h ne e = ne (omega (arith, one_bit (x % 2) (y % 2) (omega arith) (omega arith) e))

pub differ_at : (a b : Text) (at shift : ℕ) → shift ≤ 8 → symbol a at / 2 ^ (shift + 1) ≡ symbol b at / 2 ^ (shift + 1) → symbol a at / 2 ^ shift ≢ symbol b at / 2 ^ shift
    → bit a (9 * at + (8 - shift)) ≢ bit b (9 * at + (8 - shift))
differ_at a b at shift l high ne e = last_bit (symbol a at / 2 ^ shift) (symbol b at / 2 ^ shift) (halves (symbol a at) shift ∙ high ∙ sym (halves (symbol b at) shift)) ne
    (sym (bit_of_symbol a at shift l) ∙ e ∙ bit_of_symbol b at shift l)

pub same_high : (x y : ℕ) → x < 512 → y < 512 → x / 512 ≡ y / 512
same_high x y l m = omega arith

-- symbols that are the same above a bit, and at it, are the same above the next
pub same_next : (a b : Text) (at shift : ℕ) → shift ≤ 8 → 0 < shift → SameBits (9 * at + (8 - shift)) a b → symbol a at / 2 ^ shift ≡ symbol b at / 2 ^ shift → SameBits (9 * at + (8 - (shift - 1))) a b
same_next a b at shift l some h e =
    subst (λ n. SameBits n a b) (omega arith) (same_bits_next h (bit_of_symbol a at shift l ∙ ap (λ x. x % 2 == 1) e ∙ sym (bit_of_symbol b at shift l)))

pub some_shift : (x y s : ℕ) → x ≢ y → x / 2 ^ s ≡ y / 2 ^ s → 0 < s
some_shift x y zero ne h = absurd (ne (omega (arith, h)))
some_shift x y (suc s) ne h = omega arith

-- ---- the ends of texts

bit_behind : (text : Text) (i : ℕ) → 9 * length text ≤ i → bit text i ≡ false
unfolding bit
bit_behind text i l = ap (λ s. bit_at s (8 - i % 9) == 1) (symbol_behind text (i / 9) (omega arith)) ∙ ap (λ b. b == 1) (bit_at-zero (8 - i % 9))

-- two texts differ no later than where each ends
pub differ_within : (n : ℕ) (a b : Text) → SameBits n a b → bit a n ≢ bit b n → n ≤ 9 * length a
differ_within n a b h differ = elim (cases_lt (9 * length a) n) [
  | inl above ↦ let short = no_longer a h above in absurd (differ (bit_behind a n (omega arith) ∙ sym (bit_behind b n (omega arith))))
  | inr within ↦ within
]

-- what has as many bits has the next one too, if both texts end there
pub ends_there : (n : ℕ) (a b : Text) → length a ≡ n → length b ≡ n → SameBits (9 * n) a b → SameBits (9 * n + 1) a b
ends_there n a b l m h = same_bits_next h (bit_behind a (9 * n) (omega arith) ∙ sym (bit_behind b (9 * n) (omega arith)))

-- or if both go on
pub goes_there : (n : ℕ) (a b : Text) → n < length a → n < length b → SameBits (9 * n) a b → SameBits (9 * n + 1) a b
goes_there n a b l m h = same_bits_next h (goes_on a n ∙ lt-ltb n (length a) l ∙ sym (goes_on b n ∙ lt-ltb n (length b) m))

pub same_whole : (a b : Text) (n : ℕ) → AreBytes a → AreBytes b → n ≡ common_prefix_len nat_eq a b → n ≡ length a → n ≡ length b → a ≡ b
same_whole a b n p q e l m = same_text a b p q (subst (λ n. SameBits (9 * n + 1) a b) l (ends_there n a b (sym l) (sym m) (common_bits a b n e)))

-- a text whose bit says that it has ended where the other goes on
pub ended_at : (a b : Text) (n : ℕ) → n < length a → n ≤ length b → bit a (9 * n) ≢ bit b (9 * n) → length b ≡ n
ended_at a b n l m differ = elim (cases_lt n (length b)) [
  | inl goes ↦ absurd (differ (goes_on a n ∙ lt-ltb n (length a) l ∙ sym (goes_on b n ∙ lt-ltb n (length b) goes)))
  | inr ended ↦ omega arith
]

pub ruleset differences = (same_high, symbol_small, same_next, some_shift, differ_at)

-- The first bytes of two texts that are the same, and are kept where escapes are decoded.
use Rattle.std.specs.Prelude.{◌≡◌, ◌≢◌, ◌==◌, if◌then◌else◌, ℕ, ◌<◌, ◌≤◌, List, length, slice_index, bit_or, bit_xor}
use Rattle.percent_encoding.specs.Percent.{percent_sign}

-- the first n bytes are the same, none of them is `%`, and that holds of no more
pub record IsKeptFront (a b : List ℕ) (n : ℕ) : Type 0 where
  pub first : n ≤ length a
  pub second : n ≤ length b
  pub same : (k : ℕ) → k < n → slice_index a k ≡ slice_index b k
  pub kept : (k : ℕ) → k < n → slice_index a k ≢ percent_sign
  pub ends : n < length a → n < length b → slice_index a n ≡ slice_index b n → slice_index a n ≡ percent_sign

-- of two bytes: 0 exactly if they are the same, and not `%`
abbrev pub end_mark : ℕ → ℕ → ℕ
end_mark x y = bit_or (bit_xor x y) (if x == percent_sign then 255 else 0)

-- The tables of plain bytes, checked entry by entry.
use Rattle.std.proofs.Common.{◌≡◌, ℕ, ◌+◌, ◌<◌, ◌≤◌, Bool, List, true, false, length, get_or, refl, sym, ◌∙◌, arith, Fits, w8, below_more}
use Rattle.std.proofs.lemmas.Bool.{agree_below_at, eq-eqb, ne_eqb}
use Rattle.std.proofs.lemmas.List.Sums.{prefix_len_is, prefix_len_passes, prefix_len_stops, prefix_len-le-length}
use Rattle.std.specs.List.{prefix_len}
use Rattle.iref_parse.specs.{declared.plain.Groups.{Groups}, declared.plain.TheConstants.{ASCII, COMMON, NAME, PATH}}
use Rattle.iref_parse.specs.Plain.{is_plain_byte, is_common_byte, is_name_byte, is_path_byte, other_groups, is_in_no_group}
use Rattle.iref_parse.specs.Lanes.{IsFirstMarked}

-- a test that agrees with another on each byte of a list passes as many in front
front_agrees : (p q : ℕ → Bool) (bytes : List ℕ) → ((k : ℕ) → p (get_or bytes k 0) ≡ q (get_or bytes k 0)) → prefix_len p bytes ≡ prefix_len q bytes
front_agrees p q bytes same = sym (prefix_len_is q bytes (prefix_len p bytes) 0 (prefix_len-le-length p bytes) (λ k l. sym (same k) ∙ prefix_len_passes p bytes k 0 l) (λ l. sym (same (prefix_len p bytes)) ∙ prefix_len_stops p bytes 0 l))

-- the tables give no group exactly to the plain bytes
module _ (bytes : List ℕ) (fit : (k : ℕ) → Fits w8 (get_or bytes k 0)) where
  pub ascii_front : prefix_len (is_in_no_group ASCII) bytes ≡ prefix_len is_plain_byte bytes
  ascii_front = front_agrees (is_in_no_group ASCII) is_plain_byte bytes (λ k. agree_below_at (is_in_no_group ASCII) is_plain_byte 256 (get_or bytes k 0) refl (fit k).fits)

  pub common_front : prefix_len (is_in_no_group COMMON) bytes ≡ prefix_len is_common_byte bytes
  common_front = front_agrees (is_in_no_group COMMON) is_common_byte bytes (λ k. agree_below_at (is_in_no_group COMMON) is_common_byte 256 (get_or bytes k 0) refl (fit k).fits)

pub name_byte : (b : ℕ) → Fits w8 b → is_in_no_group NAME b ≡ is_name_byte b
name_byte b fit = agree_below_at (is_in_no_group NAME) is_name_byte 256 b refl fit.fits

pub path_byte : (b : ℕ) → Fits w8 b → is_in_no_group PATH b ≡ is_path_byte b
path_byte b fit = agree_below_at (is_in_no_group PATH) is_path_byte 256 b refl fit.fits

-- the mark of the byte at index k
abbrev pub groups_at : Groups → List ℕ → ℕ → ℕ
groups_at groups bytes k = other_groups groups (get_or bytes k 0)

-- the bytes before this index are plain
pub record IsPlainFront (groups : Groups) (bytes : List ℕ) (at : ℕ) : Type 0 where
  pub within : at ≤ length bytes
  pub each : (k : ℕ) → k < at → is_in_no_group groups (get_or bytes k 0) ≡ true

module _ (groups : Groups) (bytes : List ℕ) (at : ℕ) where
  pub IsPlainFront-more : IsPlainFront groups bytes at → at < length bytes → is_in_no_group groups (get_or bytes at 0) ≡ true → IsPlainFront groups bytes (at + 1)
  IsPlainFront-more old l e = record {
    within = omega arith;
    each = below_more (λ k. is_in_no_group groups (get_or bytes k 0) ≡ true) at old.each e;
  }

  pub plain_front_is : IsPlainFront groups bytes at → (at < length bytes → is_in_no_group groups (get_or bytes at 0) ≡ false) → at ≡ prefix_len (is_in_no_group groups) bytes
  plain_front_is h other = sym (prefix_len_is (is_in_no_group groups) bytes at 0 h.within h.each other)

  -- up to the first byte with a mark
  pub plain_front_from_marks : IsFirstMarked (groups_at groups bytes) (length bytes) at → at ≡ prefix_len (is_in_no_group groups) bytes
  plain_front_from_marks h = plain_front_is (record { within = h.within; each = λ k l. eq-eqb _ 0 (h.clear k l) }) (λ l. ne_eqb _ 0 (h.marked l))

-- Where the slashes of a text are.
use Rattle.std.specs.{Prelude.{◌≡◌, ◌≢◌, ℕ, ◌<◌, ◌≤◌, ◌==◌, List, length, map, slice_index}, Simd.Lanes.{mask_l}}
use Rattle.iref_grammar.specs.{Rules.{Text}, Grammar.{slash}}

-- a bit for each byte that is a slash
abbrev pub slash_mask : List ℕ → ℕ
slash_mask bytes = mask_l (map (λ c. c == slash) bytes)

-- no slash stands at this index or behind it
abbrev pub LacksSlashFrom : Text → ℕ → Type 0
LacksSlashFrom text at = (i : ℕ) → at ≤ i → i < length text → slice_index text i ≢ slash

-- the last slash
pub record IsLastSlash (text : Text) (at : ℕ) : Type 0 where
  pub within : at < length text
  pub slash_there : slice_index text at ≡ slash
  pub behind : (i : ℕ) → at < i → i < length text → slice_index text i ≢ slash

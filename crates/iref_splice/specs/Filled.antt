-- A slice that is filled from its end.
use Rattle.std.specs.{Borrow.{GName}, Prelude.{◌≡◌, ℕ, ◌-◌, ◌≤◌, ◌++◌, length, nat_le, take, drop, if◌then◌else◌}}
use Rattle.iref_grammar.specs.Rules.{Text}
use Rattle.iref_splice.specs.declared.backward.Filled.{Filled}

-- the name of the slice
abbrev pub borrowed_name : Filled → GName
borrowed_name f = f.bytes.ghost_name

-- no byte of the slice is written
pub record IsUnwritten (f : Filled) (bytes : Text) : Type 0 where
  pub same : f.bytes.now ≡ bytes
  pub all : f.start ≡ length bytes

-- a piece stands before an index within the bytes, and the others stay
abbrev pub with_piece : Text → ℕ → Text → Text
with_piece bytes end piece =
    if nat_le end (length bytes) then take (end - length piece) bytes ++ (piece ++ drop end bytes) else bytes

-- where it begins
abbrev pub piece_start : Text → ℕ → Text → ℕ
piece_start bytes end piece = if nat_le end (length bytes) then end - length piece else end

abbrev pub filled_after : Filled → Text → Filled
filled_after f piece = record f {
  bytes = record f.bytes { now = with_piece f.bytes.now f.start piece };
  start = piece_start f.bytes.now f.start piece;
}

-- as many bytes are not written
pub record HasRoom (f : Filled) (piece : Text) : Type 0 where
  pub room : length piece ≤ f.start
  pub within : f.start ≤ length f.bytes.now

-- A text that is counted from its end, and held as long as it has at most 256 bytes.
use Rattle.std.specs.Prelude.{ℕ, [], ◌++◌, max, nat_le, Option, Some, None, option_map, if◌then◌else◌}
use Rattle.iref_grammar.specs.Rules.{Text}
use Rattle.iref_splice.specs.Backward.{counted_after}

-- what was taken: how many bytes, or the greatest number, and the text if it is held
pub record Taken : Type 0 where
  pub count : ℕ
  pub text : Option Text

-- what is held after a piece that makes this count of that
abbrev pub held_after : ℕ → ℕ → Text → Option Text → Option Text
held_after before count piece text = if nat_le count (max 256 before) then option_map (λ t. piece ++ t) text else None

abbrev pub taken_after : Taken → Text → Taken
taken_after t piece = record {
  count = counted_after t.count piece;
  text = held_after t.count (counted_after t.count piece) piece t.text;
}

-- no text was taken
abbrev pub taken_nothing : Taken
taken_nothing = record { count = 0; text = Some [] }

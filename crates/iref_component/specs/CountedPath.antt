-- The count of the segments that comparisons of paths read.
use Rattle.std.specs.Prelude.{ℕ, ◌+◌, ◌-◌, ◌<◌, ◌^◌}
use Rattle.iref_grammar.specs.PathValue.{PathValue}
use Rattle.iref_grammar.specs.PathFunctions.{segment_count}
use Rattle.iref_component.specs.declared.path_equality.Steps.{Steps}

-- how many segments have been read
abbrev pub steps_count : Steps → ℕ
steps_count steps = steps.count

-- how many segments have been read since
abbrev pub steps_taken : Steps → Steps → ℕ
steps_taken before after = steps_count after - steps_count before

-- the count has room for the segments of two paths
abbrev pub HasRoomFor : Steps → PathValue → PathValue → Type 0
HasRoomFor steps p q = steps_count steps + segment_count p + segment_count q < 2 ^ 128

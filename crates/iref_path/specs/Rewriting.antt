-- A path that is rewritten over its own bytes, from the back.
use Rattle.std.specs.{Prelude.{ℕ, Bool, ◌-◌, ◌==◌, List, [], ◌++◌, take, if◌then◌else◌}, List.{join_with_byte, splice}}
use Rattle.iref_splice.specs.{Changes.{part_at}, declared.change.Span.{Span}}
use Rattle.iref_grammar.specs.{Grammar.{slash}, PathValue.{read_path}, Rules.{Text}, Texts.{pieces_at}}
use Rattle.iref_grammar.specs.{NormalList.{normal_segments}, NormalReading.{items}}

-- the segments before an index, where one begins: a `/` stands after each
abbrev pub pieces_before : Text → ℕ → List Text
pieces_before text index = if index == 0 then [] else pieces_at slash (take (index - 1) text)

-- the items of these segments with `/` between
abbrev pub items_text : Bool → Text → Text
items_text absolute segments = join_with_byte slash (items (record { absolute = absolute; segments = pieces_at slash segments }))

-- what stands first, and the normal list of the path with `/` between
abbrev pub rewritten : Text → Text → Text
rewritten guard path = guard ++ join_with_byte slash (normal_segments (read_path path))

-- the text with that instead of the path in a range
abbrev pub rewritten_at : Text → Text → Span → Text
rewritten_at guard text range = splice text range.start range.end (rewritten guard (part_at text range))

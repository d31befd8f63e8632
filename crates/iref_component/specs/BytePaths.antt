-- Paths in a range of bytes.
use Rattle.std.specs.Prelude.{ℕ, ◌≡◌, true, take, slice_range}
use Rattle.iref_grammar.specs.{Characters.{CharTests}, Rules.{Text}, Tests.{is_path}}
use Rattle.iref_grammar.specs.{Contexts.{context_from, follows_authority}, PathValue.{read_path}}

-- after an authority, a path in the range is absolute or empty
abbrev pub MayFollow : CharTests → Text → ℕ → ℕ → Type 0
MayFollow set bytes start end =
    is_path set (slice_range bytes start end) ≡ true → follows_authority (context_from (take start bytes)) (read_path (slice_range bytes start end)) ≡ true

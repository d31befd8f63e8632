-- Where a path stands that is a whole text.
use Rattle.std.specs.Prelude.{ℕ, ◌≡◌, true, length}
use Rattle.std.proofs.Props.{props}
use Rattle.iref_grammar.specs.{declared.context.PathContext.{PathContext}, Characters.{CharTests}, Rules.{Text}}
use Rattle.iref_path.specs.PathParts.{is_path_after}

-- the path is all of the text, and may stand in the context
abbrev pub IsWholePath : CharTests → Text → PathContext → ℕ → ℕ → Type 0
IsWholePath set text context start end = (start ≡ 0) × (end ≡ length text) × (is_path_after set context text ≡ true)

pub one_whole_path : (set : CharTests) (text : Text) (context : PathContext) (start end : ℕ) → IsProp (IsWholePath set text context start end)
one_whole_path set text context start end = hlevel props

-- What keeps references and paths readable.
use Rattle.std.specs.Prelude.{◌≡◌, true}
use Rattle.iref_grammar.specs.{Characters.{CharTests}, Contexts.{is_readable_path}, PathValue.{PathValue}}
use Rattle.iref_grammar.specs.{Reference.{ReferenceValue, is_readable}, declared.context.PathContext.{PathContext}}

-- a readable reference is readable after the step
abbrev pub KeepsReadable : CharTests → (ReferenceValue → ReferenceValue) → Type 0
KeepsReadable set step = (r : ReferenceValue) → is_readable set r ≡ true → is_readable set (step r) ≡ true

-- a path that is readable in a context is so after the step in this context
abbrev pub KeepsPathsReadable : CharTests → (PathContext → PathValue → PathValue) → Type 0
KeepsPathsReadable set step = (context : PathContext) (p : PathValue) → is_readable_path set context p ≡ true → is_readable_path set context (step context p) ≡ true

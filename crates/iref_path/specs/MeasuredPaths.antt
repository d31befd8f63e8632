-- The text of a path that is measured before it is written.
use Rattle.std.specs.Prelude.{◌+◌, ◌<◌, ◌^◌, ◌++◌, length}
use Rattle.iref_grammar.specs.Rules.{Text}
use Rattle.iref_path.specs.{Bodies.{IsBody, body_text}, declared.measured.MeasuredPath.{MeasuredPath}}

-- what stands first, and what follows
unfoldable pub measured_text : MeasuredPath → Text
measured_text t = t.guard.now ++ body_text t.body

-- the size is that of what follows, and can be counted with what stands first
pub record IsMeasured (t : MeasuredPath) : Type 0 where
  pub body : IsBody t.body
  pub countable : length t.guard.now + length (body_text t.body) < 2 ^ 64

use Rattle.std.proofs.Common.{sym, ◌∙◌}
use Rattle.iref_component.specs.Comparisons.{by_parts}
use Rattle.iref_component.proofs.KeyLemmas.{same_keys}
use Rattle.iref_component.proofs.key.PartsKeyKey.compare.Goals as goal

pub returns-then-eq : goal.returns-then-eq
returns-then-eq g c = same_keys by_parts c.args.a.now c.args.b.now (sym c.eq.ensures ∙ c.if-eq.true)

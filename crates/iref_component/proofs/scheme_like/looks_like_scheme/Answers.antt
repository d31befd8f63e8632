use Rattle.std.proofs.Common.{◌∙◌, ap}
use Rattle.iref_grammar.specs.Tests.{is_scheme}
use Rattle.iref_component.proofs.SchemeLookLemmas.{looks_like-marked, looks_like-unmarked}
use Rattle.iref_component.proofs.scheme_like.looks_like_scheme.Goals as goal

pub returns-then-is_some : goal.returns-then-is_some
returns-then-is_some c =
    looks_like-marked c.args.text.now c.cut.result.1 c.cut.ensures.after c.if-is_some.ensures c.is_scheme.result (c.is_scheme.ensures ∙ ap is_scheme c.cut.ensures.before)

pub returns-else-is_some : goal.returns-else-is_some
returns-else-is_some c = c.if-is_some.false ∙ looks_like-unmarked c.args.text.now c.cut.result.1 c.cut.ensures.after c.if-is_some.ensures

use Rattle.std.proofs.Common.{sym, ◌∙◌}
use Rattle.iref_parse.specs.ReferenceSlices.{texts_of}
use Rattle.iref_grammar.proofs.ComponentLemmas.{is_some-copied, uri_by_scheme}
use Rattle.iref_reference.proofs.rule.UriRuleHeldRule.parse.Goals as goal

pub returns-in-Some-clause-accepted : goal.returns-in-Some-clause-accepted
returns-in-Some-clause-accepted g c =
    sym c.if-is_some.true ∙ c.is_some.ensures ∙ is_some-copied c.in-Some.slices.scheme
    ∙ uri_by_scheme g.C.CharSet.tests c.args.text.now (texts_of c.in-Some.slices) c.in-Some.ensures.value c.in-Some.ensures.accepted

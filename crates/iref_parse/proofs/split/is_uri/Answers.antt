use Rattle.std.proofs.Common.{◌∙◌}
use Rattle.iref_parse.specs.ReferenceSlices.{texts_of}
use Rattle.iref_grammar.proofs.ComponentLemmas.{is_some-copied, uri_by_scheme, not_uri}
use Rattle.iref_parse.proofs.split.is_uri.Goals as goal

pub returns-in-Some : goal.returns-in-Some
returns-in-Some g c = c.is_some.ensures ∙ is_some-copied c.in-Some.slices.scheme ∙ uri_by_scheme g.C.CharSet.tests c.args.text.now (texts_of c.in-Some.slices) c.in-Some.ensures.value c.in-Some.ensures.accepted

pub returns-in-None : goal.returns-in-None
returns-in-None g c = not_uri g.C.CharSet.tests c.args.text.now c.in-None.ensures.accepted

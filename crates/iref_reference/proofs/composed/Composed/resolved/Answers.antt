use Rattle.std.proofs.lemmas.Result.{IfOk-weaker}
use Rattle.iref_grammar.proofs.ResolvedLemmas.{resolved-readable}
use Rattle.iref_parse.specs.ReferenceSlices.{value_of}
use Rattle.iref_reference_text.proofs.{LeadLemmas.{readable-fits}, MeasuredLemmas.{composes, spells_same}}
use Rattle.iref_reference.proofs.composed.Composed.resolved.Goals as goal

pub resolved-requires-clause-fits : goal.resolved-requires-clause-fits
resolved-requires-clause-fits g c = readable-fits g.C.CharSet.tests (value_of c.args.base) c.requires.base

pub of_components-requires : goal.of_components-requires
of_components-requires g c =
    let set = g.C.CharSet.tests in
    let readable = resolved-readable set (value_of c.args.base) (value_of c.args.reference) c.requires.base c.requires.reference in
    (composes set g.met.C.CharSet.above_ascii (g.R.Rule.test set) g.R.HeldRule.allows_scheme (g.met.R.HeldRule.by_scheme set) _ _ c.resolved.ensures.ready c.resolved.ensures.texts readable c.requires.allowed).composed

pub returns : goal.returns
returns g c =
    let set = g.C.CharSet.tests in
    let readable = resolved-readable set (value_of c.args.base) (value_of c.args.reference) c.requires.base c.requires.reference in
    let spelled = (composes set g.met.C.CharSet.above_ascii (g.R.Rule.test set) g.R.HeldRule.allows_scheme (g.met.R.HeldRule.by_scheme set) _ _ c.resolved.ensures.ready c.resolved.ensures.texts readable c.requires.allowed).spelled in
    IfOk-weaker c.of_components.result _ _ (λ t e. spells_same _ _ t spelled e) c.of_components.ensures

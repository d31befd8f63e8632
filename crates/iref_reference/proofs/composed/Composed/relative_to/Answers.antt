use Rattle.std.proofs.lemmas.Result.{IfOk-weaker}
use Rattle.iref_grammar.proofs.ReadableRelativeLemmas.{relative_to-readable}
use Rattle.iref_parse.specs.ReferenceSlices.{value_of}
use Rattle.iref_reference_text.proofs.MeasuredLemmas.{composes, spells_same}
use Rattle.iref_reference.proofs.composed.Composed.relative_to.Goals as goal

pub of_components-requires : goal.of_components-requires
of_components-requires g c =
    let set = g.C.CharSet.tests in
    let readable = relative_to-readable set (value_of c.args.target) (value_of c.args.base) c.requires.readable in
    (composes set g.met.C.CharSet.above_ascii (g.R.Rule.test set) g.R.HeldRule.allows_scheme (g.met.R.HeldRule.by_scheme set) _ _ c.relative_to.ensures.ready c.relative_to.ensures.texts readable c.requires.allowed).composed

pub returns : goal.returns
returns g c =
    let set = g.C.CharSet.tests in
    let readable = relative_to-readable set (value_of c.args.target) (value_of c.args.base) c.requires.readable in
    let spelled = (composes set g.met.C.CharSet.above_ascii (g.R.Rule.test set) g.R.HeldRule.allows_scheme (g.met.R.HeldRule.by_scheme set) _ _ c.relative_to.ensures.ready c.relative_to.ensures.texts readable c.requires.allowed).spelled in
    IfOk-weaker c.of_components.result _ _ (λ t e. spells_same _ _ t spelled e) c.of_components.ensures

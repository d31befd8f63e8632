use Rattle.std.proofs.Common.{◌≡◌, arith, subst, sym, None, Option, Some, option_map}
use Rattle.iref_grammar.specs.ComponentTexts.{ComponentTexts, spell_components}
use Rattle.iref_parse.specs.ReferenceSlices.{value_of}
use Rattle.iref_grammar.specs.RelativizedChoice.{chosen}
use Rattle.iref_reference_text.proofs.LeadLemmas.{readable-fits}
use Rattle.iref_reference_text.specs.MeasuredReferences.{IsReady, measured_components}
use Rattle.iref_reference.specs.Shortest.{IsRelativized}
use Rattle.iref_reference.proofs.ShortestLemmas.{are_full, composes_answer, no_answer}
use Rattle.iref_reference.proofs.composed.Composed.relativized.Goals as goal

pub relativized-requires-clause-fits : goal.relativized-requires-clause-fits
relativized-requires-clause-fits g c = readable-fits g.C.CharSet.tests (value_of c.args.target) c.requires.target

pub of_components-requires : goal.of_components-requires
of_components-requires g c =
    let set = g.C.CharSet.tests in
    let t = value_of c.args.target in
    let b = value_of c.args.base in
    let are = are_full set g.met.C.CharSet.above_ascii t b c.requires.target c.requires.base c.requires.full in
    let ready : IsReady c.in-Some.components = grind arith in
    let texts : Some (measured_components c.in-Some.components) ≡ option_map spell_components (chosen t b) = grind arith in
    (composes_answer set (g.R.Rule.test set) g.R.HeldRule.allows_scheme (g.met.R.HeldRule.by_scheme set) c.requires.allowed c.in-Some.components t b are ready texts).composed

pub returns-in_ok-of_components-in-Some : goal.returns-in_ok-of_components-in-Some
returns-in_ok-of_components-in-Some g c =
    let set = g.C.CharSet.tests in
    let t = value_of c.args.target in
    let b = value_of c.args.base in
    let are = are_full set g.met.C.CharSet.above_ascii t b c.requires.target c.requires.base c.requires.full in
    let ready : IsReady c.in-Some.components = grind arith in
    let texts : Some (measured_components c.in-Some.components) ≡ option_map spell_components (chosen t b) = grind arith in
    let made = composes_answer set (g.R.Rule.test set) g.R.HeldRule.allows_scheme (g.met.R.HeldRule.by_scheme set) c.requires.allowed c.in-Some.components t b are ready texts in
    subst (λ text. IsRelativized t b (Some text)) (sym c.in_ok-of_components-in-Some.ensures) made.answer

pub returns-in-None : goal.returns-in-None
returns-in-None g c =
    let t = value_of c.args.target in
    let b = value_of c.args.base in
    let are = are_full g.C.CharSet.tests g.met.C.CharSet.above_ascii t b c.requires.target c.requires.base c.requires.full in
    let none : ◌≡◌ {A = Option ComponentTexts} None (option_map spell_components (chosen t b)) = grind arith in
    no_answer g.C.CharSet.tests t b are none

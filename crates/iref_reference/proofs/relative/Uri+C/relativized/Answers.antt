use Rattle.std.proofs.Common.{◌≡◌, ◌∙◌, ap, arith, None, Some, is_some}
use Rattle.iref_grammar.specs.Reference.{ReferenceValue, read_reference}
use Rattle.iref_grammar.specs.{Relativized.{relativized}, RelativizedLaws.{AreReadable}}
use Rattle.iref_reference.specs.References.{reference_buf_text, reference_text}
use Rattle.iref_reference.proofs.ShortestLemmas.{answer_leads, none_is_shorter, none_leads}
use Rattle.iref_reference.proofs.relative.Uri+C.relativized.Goals as goal

pub relativized-requires-clause-full : goal.relativized-requires-clause-full
relativized-requires-clause-full g c = ap (λ (r : ReferenceValue). is_some r.scheme) c.slices.ensures.value ∙ c.slices.ensures.allowed

pub returns-in_ok-to_owned-in-Some-clause-exact : goal.returns-in_ok-to_owned-in-Some-clause-exact
returns-in_ok-to_owned-in-Some-clause-exact g c =
    let target = reference_text c.args.self.now in
    let base = reference_text c.args.base in
    let answer = reference_buf_text c.in_ok-to_owned-in-Some.field-0 in
    let are : AreReadable g.C.CharSet.tests (read_reference target) (read_reference base) =
    record { characters = g.met.C.CharSet.above_ascii; readable_target = c.slices.ensures.readable; readable_base = c.slices-2.ensures.readable } in
    let some : relativized (read_reference target) (read_reference base) ≡ Some (read_reference answer) = grind arith in
    answer_leads g.C.CharSet.tests target base are answer some

pub returns-in_ok-to_owned-in-Some-clause-shortest : goal.returns-in_ok-to_owned-in-Some-clause-shortest
returns-in_ok-to_owned-in-Some-clause-shortest g c =
    let target = reference_text c.args.self.now in
    let base = reference_text c.args.base in
    let answer = reference_buf_text c.in_ok-to_owned-in-Some.field-0 in
    let are : AreReadable g.C.CharSet.tests (read_reference target) (read_reference base) =
    record { characters = g.met.C.CharSet.above_ascii; readable_target = c.slices.ensures.readable; readable_base = c.slices-2.ensures.readable } in
    let some : relativized (read_reference target) (read_reference base) ≡ Some (read_reference answer) = grind arith in
    none_is_shorter g.C.CharSet.tests target base are answer some

pub returns-in-None-clause-none : goal.returns-in-None-clause-none
returns-in-None-clause-none g c =
    let target = reference_text c.args.self.now in
    let base = reference_text c.args.base in
    let are : AreReadable g.C.CharSet.tests (read_reference target) (read_reference base) =
    record { characters = g.met.C.CharSet.above_ascii; readable_target = c.slices.ensures.readable; readable_base = c.slices-2.ensures.readable } in
    let none : relativized (read_reference target) (read_reference base) ≡ None = grind arith in
    none_leads g.C.CharSet.tests target base are none

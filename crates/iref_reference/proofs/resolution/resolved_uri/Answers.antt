use Rattle.iref_grammar.proofs.ComponentLemmas.{Decides-AreComponents, reference_if_uri}
use Rattle.iref_grammar.specs.Resolution.{resolved}
use Rattle.iref_grammar.specs.Reference.{read_reference}
use Rattle.iref_parse.specs.ReferenceSlices.{texts_of, value_of}
use Rattle.iref_reference_text.proofs.{LeadLemmas.{readable-fits}, MeasuredLemmas.{spells_same}}
use Rattle.std.proofs.Common.{arith, ◌∙◌}
use Rattle.iref_reference.proofs.ResolutionLemmas.{readable_slices, resolved-scheme, whole-leaves, whole-resolved}
use Rattle.iref_reference.proofs.resolution.resolved_uri.Goals as goal

pub resolved_after_authority-requires-clause-components : goal.resolved_after_authority-requires-clause-components
resolved_after_authority-requires-clause-components g c =
    let set = g.C.CharSet.tests in
    (Decides-AreComponents set g.met.C.CharSet.above_ascii c.args.base_text.now (texts_of c.args.base) c.requires.base).0
    (reference_if_uri set c.args.base_text.now c.requires.base_text)

pub resolved_after_authority-requires-clause-fits : goal.resolved_after_authority-requires-clause-fits
resolved_after_authority-requires-clause-fits g c =
    let set = g.C.CharSet.tests in
    readable-fits set (value_of c.args.base) (readable_slices set c.args.base_text.now (value_of c.args.base) c.requires.base (reference_if_uri set c.args.base_text.now c.requires.base_text))

pub of_bytes-requires : goal.of_bytes-requires
of_bytes-requires g c =
    grind (
      arith,
      whole-leaves g.C.CharSet.tests g.met.C.CharSet.above_ascii c.args.base_text.now c.args.text.now (value_of c.args.base) (value_of c.args.reference)
          c.requires.base c.requires.reference c.requires.base_text c.requires.text c.in-Some.bytes.items c.in-Some.lengths,
    )

pub returns-in-Some : goal.returns-in-Some
returns-in-Some g c =
    let resolves = whole-resolved g.C.CharSet.tests g.met.C.CharSet.above_ascii c.args.base_text.now c.args.text.now (value_of c.args.base) (value_of c.args.reference)
    c.requires.base c.requires.reference c.requires.base_text c.requires.text c.in-Some.bytes.items c.in-Some.lengths (grind arith) in
    spells_same (resolved (read_reference c.args.base_text.now) (read_reference c.args.text.now)) _ _ resolves (c.from_inner.ensures ∙ c.of_bytes.ensures)

pub resolved-requires-clause-base : goal.resolved-requires-clause-base
resolved-requires-clause-base g c =
    let set = g.C.CharSet.tests in
    readable_slices set c.args.base_text.now (value_of c.args.base) c.requires.base (reference_if_uri set c.args.base_text.now c.requires.base_text)

pub resolved-requires-clause-reference : goal.resolved-requires-clause-reference
resolved-requires-clause-reference g c = readable_slices g.C.CharSet.tests c.args.text.now (value_of c.args.reference) c.requires.reference c.requires.text

pub resolved-requires-clause-allowed : goal.resolved-requires-clause-allowed
resolved-requires-clause-allowed g c =
    resolved-scheme g.C.CharSet.tests c.args.base_text.now (value_of c.args.base) (value_of c.args.reference) c.requires.base c.requires.base_text

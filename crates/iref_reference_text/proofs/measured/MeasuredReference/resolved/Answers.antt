use Rattle.std.proofs.Common.{arith, sym, ◌∙◌}
use Rattle.iref_grammar.proofs.ComponentLemmas.{is_some-copied}
use Rattle.iref_parse.specs.ReferenceSlices.{texts_of}
use Rattle.iref_path.specs.MeasuredPaths.{measured_text}
use Rattle.iref_reference_text.proofs.MeasuredLemmas.{after_resolved, kept_resolved, or-copied, own_resolved}
use Rattle.iref_reference_text.proofs.RowLemmas.{own_row, path_alone}
use Rattle.iref_reference_text.proofs.measured.MeasuredReference.resolved.Goals as goal

pub returns-in-Own-clause-texts : goal.returns-in-Own-clause-texts
returns-in-Own-clause-texts c =
    let t = texts_of c.args.reference in
    let own = own_resolved (texts_of c.args.base) t (own_row t (sym c.in-Own.is ∙ c.of-row.ensures)) (measured_text c.normalized.result) (grind (arith, is_some-copied, or-copied)) in
    grind (arith, or-copied)

pub returns-in-Base-clause-texts : goal.returns-in-Base-clause-texts
returns-in-Base-clause-texts c = grind (arith, is_some-copied, or-copied, kept_resolved (texts_of c.args.base) (texts_of c.args.reference))

pub returns-in-Rooted-clause-texts : goal.returns-in-Rooted-clause-texts
returns-in-Rooted-clause-texts c =
    let t = texts_of c.args.reference in
    let alone = path_alone t c.of-row.result c.of-row.ensures (grind arith) in
    let rooted = alone.rooted c.in-Rooted.is in
    let after = after_resolved (texts_of c.args.base) t alone.none alone.some (measured_text c.normalized-in-Rooted.result) (grind (arith, is_some-copied, or-copied)) in
    grind (arith, is_some-copied, or-copied)

pub returns-in-Merged-clause-texts : goal.returns-in-Merged-clause-texts
returns-in-Merged-clause-texts c =
    let t = texts_of c.args.reference in
    let alone = path_alone t c.of-row.result c.of-row.ensures (grind arith) in
    let after = after_resolved (texts_of c.args.base) t alone.none alone.some (measured_text c.normalized_after.result) (grind (arith, is_some-copied, or-copied)) in
    grind (arith, is_some-copied, or-copied)

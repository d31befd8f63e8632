use Rattle.std.proofs.Common.{arith, rules, ◌≡◌, ◌-◌, ◌++◌, length, ap, ◌∙◌, sym}
use Rattle.std.proofs.{lemmas.Str.{IsUtf8-append, IsCharBoundary-at_seam}, lemmas.List.{take_at}}
use Rattle.iref_grammar.specs.Reference.{spell}
use Rattle.iref_grammar.proofs.ReferenceCutLemmas.{read_reference-spelled}
use Rattle.iref_parse.specs.ReferenceSlices.{texts_of, value_of}
use Rattle.iref_grammar.specs.ReferenceParts.{base_of}
use Rattle.iref_reference_text.proofs.BaseLemmas.{base-joins, base-ends, tail, tail_utf8}
use Rattle.iref_path.specs.Pieces.{pieces_if_some}
use Rattle.iref_reference_text.proofs.base.base_slice.Goals as goal

pub overflow_sub-end : goal.overflow_sub-end
overflow_sub-end g c = grind (arith, base-ends (texts_of c.args.slices) (pieces_if_some c.last_segment.result.0) c.last_segment.result.1.now c.last_segment.ensures)

pub range-requires-clause-end_boundary : goal.range-requires-clause-end_boundary
range-requires-clause-end_boundary g c =
    let t = texts_of c.args.slices in
    let name = c.last_segment.result.1.now in
    let base = spell (base_of (value_of c.args.slices)) in
    let size : length base ≡ c.query_mark.result - length name = grind (arith, base-ends t (pieces_if_some c.last_segment.result.0) name c.last_segment.ensures) in
    let whole = base-joins t (pieces_if_some c.last_segment.result.0) name c.last_segment.ensures ∙ ap spell c.requires.value ∙ read_reference-spelled c.args.text.now in
    rw (← size) (IsCharBoundary-at_seam c.args.text.now base (name ++ tail t) (sym whole)
    (IsUtf8-append name (tail t) (search rules) (tail_utf8 g.C.CharSet.tests g.met.C.CharSet.above_ascii t c.requires.components)))

pub returns : goal.returns
returns g c =
    let t = texts_of c.args.slices in
    let front = pieces_if_some c.last_segment.result.0 in
    let name = c.last_segment.result.1.now in
    grind (arith, take_at, base-joins t front name c.last_segment.ensures, base-ends t front name c.last_segment.ensures, read_reference-spelled c.args.text.now)

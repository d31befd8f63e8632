use Rattle.std.proofs.Common.{◌+◌, ◌++◌, length, take, drop, ap, sym, ◌∙◌, arith}
use Rattle.iref_grammar.specs.Mapping.{mapped_byte}
use Rattle.iref_reference_text.proofs.HalfMappedLemmas.{half_mapped_none, half_mapped_some, half_mapped_all, half_mapped_more, same_byte, step_index, step_within}
use Rattle.iref_reference_text.proofs.mapped_bytes.map_to_the_end.Goals as goal

pub loop-left-init : goal.loop-left-init
loop-left-init c = half_mapped_none c.args.buffer.now c.args.from c.requires.within c.requires.room

pub put_mapped-end-requires-clause-room : goal.put_mapped-end-requires-clause-room
put_mapped-end-requires-clause-room c =
    let some = half_mapped_some _ _ _ _ c.loop-left.invariant c.loop-left-test.true in
    let same = ap (λ b. length (mapped_byte b)) (same_byte _ _ _ _ _ c.loop-left.invariant some) in
    let index = step_index _ _ _ _ _ c.loop-left.invariant some in
    omega arith

pub put_mapped-end-requires-clause-within : goal.put_mapped-end-requires-clause-within
put_mapped-end-requires-clause-within c =
    let some = half_mapped_some _ _ _ _ c.loop-left.invariant c.loop-left-test.true in
    step_within _ _ _ _ _ c.loop-left.invariant some

pub loop-left-preserved : goal.loop-left-preserved
loop-left-preserved c =
    let some = half_mapped_some _ _ _ _ c.loop-left.invariant c.loop-left-test.true in
    let same = same_byte _ _ _ _ _ c.loop-left.invariant some in
    half_mapped_more _ _ _ _ _ c.loop-left.invariant some _ _
    (ap (λ b. c.put_mapped-end.result + length (mapped_byte b)) (sym same) ∙ c.put_mapped-end.ensures.start)
    (c.put_mapped-end.ensures.written ∙ ap (λ b. take c.put_mapped-end.result c.loop-left.buffer ++ mapped_byte b ++ drop c.loop-left.end c.loop-left.buffer) same)

pub returns : goal.returns
returns c = half_mapped_all _ _ _ _ c.loop-left.invariant c.loop-left-test.false

use Rattle.std.proofs.Common.{arith, ◌≡◌, ◌+◌, ◌++◌, ◌∙◌, ap, drop, length, length-take, subst, sym, take}
use Rattle.std.proofs.{lemmas.Simd.{put_chunk_is}, lemmas.List.{take-take}}
use Rattle.std.specs.Simd.Lanes.{put_chunk}
use Rattle.iref_canonical.specs.SortPuts.{Puts}
use Rattle.iref_canonical.proofs.SortBlockLemmas.{stored}
use Rattle.iref_canonical.proofs.sort_short.store_block.Goals as goal

pub returns : goal.returns
returns c =
    let at = c.args.at in
    let old = c.args.buffer.now in
    let block = take 16 c.args.bytes.now in
    let size : length block ≡ 16 = grind (arith, length-take, c.requires.block) in
    let written = put_chunk_is at old block (omega (arith, size, c.requires.room)) ∙ ap (λ k. take at old ++ (block ++ drop k (drop at old))) size in
    λ count most. subst (λ t. Puts at t old (put_chunk at old block) (at + count)) (take-take count 16 c.args.bytes.now most)
    (stored at 16 count block old (put_chunk at old block) (sym size) (omega (arith, size, c.requires.room)) (omega (arith, size)) written)

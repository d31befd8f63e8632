use Rattle.std.proofs.Common.{length, ap, ◌∙◌, arith}
use Rattle.iref.specs.Authority.{spell_authority}
use Rattle.iref_c.proofs.RangeLemmas.{length-read}
use Rattle.iref_c.proofs.ranges.ranges_at.Goals as goal

pub ranges_from-requires : goal.ranges_from-requires
ranges_from-requires c =
    let read = ap (λ a. length (spell_authority a)) c.split_parts.ensures ∙ length-read c.in-Some.authority.now in
    let ends = rw c.in-Some.is at c.requires.ends in omega (arith, read, ends)

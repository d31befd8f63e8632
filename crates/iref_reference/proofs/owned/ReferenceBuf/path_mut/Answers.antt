use Rattle.std.proofs.Common.{◌≡◌, ap, refl, ◌∙◌}
use Rattle.iref_grammar.specs.{ComponentOffsets.{offsets_in, offsets_of}, Reference.{context_of, read_reference}}
use Rattle.iref_reference_text.specs.ComponentLengths.{context_by}
use Rattle.iref_reference_text.proofs.LengthLemmas.{context-lengths, path_after-lengths, query_after-lengths}
use Rattle.iref_reference.proofs.owned.ReferenceBuf.path_mut.Goals as goal

pub of_target-requires : goal.of_target-requires
unfolding offsets_of offsets_in
of_target-requires g c =
    let r = read_reference c.args.self.now.inner in
    let context : c.context.result ≡ context_of r = c.context.ensures ∙ ap context_by c.lengths-lengths.ensures.lengths ∙ context-lengths r in (
      g.met.R.HeldRule.references g.C.CharSet.tests c.args.self.now.inner c.lengths-lengths.ensures.in_rule,
      rw (c.path_start-start.ensures, c.lengths-lengths.ensures.lengths, path_after-lengths) refl,
      rw (c.path_start-start.ensures, c.lengths-lengths.ensures.lengths, query_after-lengths) refl,
      ap (λ x. x.has_scheme) context,
      ap (λ x. x.has_authority) context,
    )
